-- What calls pass and return: C's own arguments and results, each extended to a word, where the psABI puts them.
use Rattle.std.specs.Prelude.{◌≡◌, ◌<◌, ℕ, ◌+◌, ◌-◌, ◌*◌, nat_lt, if◌then◌else◌, List, ◌∷◌, Option, Some, slice_get}
use Rattle.rv32.specs.Space.{word_at}
use Rattle.rv32.specs.Step.{register}
use Rattle.loader.specs.File.{Image}
use Rattle.sim.specs.Runs.{World, Running}
use Rattle.typing_spec.specs.Program.{Function, Program}
use Rattle.csem.specs.History.{Entry, Entered, Left, active}
use Rattle.lower_correct.specs.Words.{ArePassed, IsReturned}
use Rattle.frames_code.specs.declared.code.Instruction.TheVariants as instruction
use Rattle.frames_code.specs.Costs.{next_of}
use Rattle.frames_code.specs.Run as flat
use Rattle.select_correct.specs.Convention.{IsInCallee, ComesToCall, behind_call}
use Rattle.cc_backend.specs.Runs.{IsInput}
use Rattle.cc_backend.specs.Made.{IsFileOf}
use Rattle.cc_laws.specs.Laws.{StaysDefined, HasImage, HasComeTo, run_of, labels}

-- the word of argument k at the entry of a function: the first eight are in a0 to a7, the further ones on the stack from the stack pointer up (RISC-V ELF
-- psABI, "Integer Calling Convention")
abbrev pub argument_word : World → ℕ → ℕ
argument_word v k = if nat_lt k 8 then register v.machine (10 + k) else word_at v.machine.space.byte (register v.machine 2 + 4 * (k - 8))

-- At v function f has just been called, as at a moment of the abstract machine's run at which these calls are active. Each number that it passed there,
-- converted to the type of its parameter and extended by it to a word, is the word of its argument.
pub record HasArguments (p : Program) (input : List ℕ) (f : ℕ) (g : Function) (calls : List ℕ) (v : World) : Type 0 where
  pub ticks : ℕ
  pub earlier : List Entry
  pub words : List (Option ℕ)
  pub begins : HasComeTo p input ticks (Entered f words ∷ earlier)
  pub calls_are : active (Entered f words ∷ earlier) ≡ calls
  pub passed : ArePassed g.type.parameters words
  pub lie : (k w : ℕ) → slice_get words k ≡ Some (Some w) → argument_word v k ≡ w

-- At w function g has just returned, as at a moment of the abstract machine's run before which these calls were active. The number that it returned there, converted
-- to the type of its result and extended by it to a word, is in a0: of a `char` 0 to 255.
pub record HasResult (p : Program) (input : List ℕ) (g : Function) (calls : List ℕ) (w : World) : Type 0 where
  pub ticks : ℕ
  pub earlier : List Entry
  pub result : Option ℕ
  pub ends : HasComeTo p input ticks (Left result ∷ earlier)
  pub calls_are : active earlier ≡ calls
  pub returned : IsReturned g.type.result result
  pub in_a0 : (x : ℕ) → result ≡ Some x → register w.machine 10 ≡ x

-- A call of function f from state s: at its entry the arguments are where they are passed, and from wherever it returns, it returns to its caller with its result.
pub record PassesWords {stack : ℕ} {p : Program} {file frames : List ℕ} (made : IsFileOf stack p file frames) (image : Image) (input : List ℕ) (f : ℕ) (g : Function) (s : flat.State) : Type 0 where
  pub k : ℕ
  pub v : World
  pub runs : run_of image input k ≡ Running v
  pub pc : v.machine.pc ≡ labels made f
  pub ra : register v.machine 1 ≡ behind_call made.code (labels made) s
  pub arguments : HasArguments p input f g (flat.active (flat.entered s f)) v
  pub returns : (m : ℕ) (t : flat.State) → IsInCallee made.code (flat.entered s f) m t → next_of made.code t ≡ Some instruction.Return
      → (j : ℕ) × (w : World) × (run_of image input (k + j) ≡ Running w) × (w.machine.pc ≡ register v.machine 1) × HasResult p input g (flat.active t) w

-- each call that the run of a file's flat code reaches
abbrev pub CallsPassWords : {stack : ℕ} {file frames : List ℕ} (p : Program) → IsFileOf stack p file frames → Image → (input : List ℕ) → Type 0
CallsPassWords p made image input =
    (n f : ℕ) (s : flat.State) (g : Function) → ComesToCall made.code input n f s → slice_get p.functions f ≡ Some g → PassesWords made image input f g s

-- this holds of each file made of a program, on every input on which the program stays defined
abbrev pub FilesPassWords : Type 0
FilesPassWords =
    (stack : ℕ) (p : Program) (file frames : List ℕ) (made : IsFileOf stack p file frames)
    → HasImage file (λ image. (input : List ℕ) → IsInput input → StaysDefined stack p input → CallsPassWords p made image input)
