-- The relation of an image to a flat program, and how it then runs.
use Rattle.std.specs.Prelude.{◌≡◌, ◌≤◌, ◌<◌, ℕ, ◌+◌, ◌*◌, List, ◌∷◌, length, Some}
use Rattle.memory_map.specs.MemoryMap.{text_start, IsStackSize}
use Rattle.elf_out.specs.Layout.{Parts}
use Rattle.elf_out.specs.Program.{program_image}
use Rattle.asm.specs.Placed.{Assembles}
use Rattle.csem_events.specs.Events.{Event}
use Rattle.sim.specs.Runs.{World, Running, Ended, rvrun, start_world}
use Rattle.frames_code.specs.Code.{Program}
use Rattle.frames_code.specs.Sound.{IsSoundProgram}
use Rattle.frames_code.specs.declared.code.Instruction.TheVariants as instruction
use Rattle.frames_code.specs.Costs.{next_of}
use Rattle.frames_code.specs.Run.{State, Progress, running, ended, stuck, entered, function_at, bytes_of, run, start}
use Rattle.select.specs.Program.{program_items}
use Rattle.select_correct.specs.Costs.{step_cost, most_spent, most_start}
use Rattle.select_correct.specs.Laws.{AreBytes}
use Rattle.select_correct.specs.Matches.{first_of}
use Rattle.select_correct.specs.Runs.{IsWithin, StandsWith, BackFrom, slack}

-- its text assembles a sound program's items, its data are the program's statics, and it has a stack
pub record IsImageOf (p : Program) (parts : Parts) : Type 0 where
  pub sound : IsSoundProgram p
  pub assembled : Assembles (program_items p) text_start parts.text
  pub statics : parts.statics ≡ p.statics
  pub text_bytes : AreBytes parts.text
  pub static_bytes : AreBytes parts.statics
  pub size : length parts.text + length parts.statics ≤ 0x7000000
  pub stack : IsStackSize parts.stack

-- the frames of the active calls fit a stack of `stack` bytes
abbrev pub FitStack : (stack : ℕ) → Program → Progress → Type 0
FitStack stack p (running s) = bytes_of p (s.frame ∷ s.waiting) ≤ stack
FitStack stack p (ended status input trace) = Unit {0}
FitStack stack p stuck = Unit {0}

-- n steps of the program, where all frames on the way fit the stack and the input is bytes, are k instructions of the machine from its image: at most the sum
-- of the rows of `simulation`'s table, and at least one for each `slack` steps.
abbrev pub ImageGoesOn : Type 0
ImageGoesOn =
    (p : Program) (parts : Parts) (input : List ℕ) → (q : IsImageOf p parts) → AreBytes input
    → (n : ℕ) (s : State) → run p n (start p input) ≡ running s → ((k : ℕ) → k ≤ n → FitStack parts.stack p (run p k (start p input)))
    → (k : ℕ) × (w : World) × (n < slack p * k) × (k ≤ most_start p + most_spent p n (start p input)) × (rvrun k (start_world (program_image parts) input) ≡ Running w) × StandsWith p q.assembled.env s w

-- and where the program ends, at most two more
abbrev pub ImageEnds : Type 0
ImageEnds =
    (p : Program) (parts : Parts) (input : List ℕ) → IsImageOf p parts → AreBytes input
    → (n status : ℕ) (left : List ℕ) (trace : List Event) → run p n (start p input) ≡ ended status left trace → ((k : ℕ) → k ≤ n → FitStack parts.stack p (run p k (start p input)))
    → (k : ℕ) × (w : World) × (k ≤ most_start p + most_spent p n (start p input) + 2) × (rvrun k (start_world (program_image parts) input) ≡ Ended status w) × (w.trace ≡ trace) × (w.input ≡ left)

-- At each call that the program reaches, and after the return that ends it (m steps within the call, and then that Return): the machine is where the program
-- is, with the arguments of the call, and then after the call, with the same stack pointer and s0 to s11, and the result.
abbrev pub ImageCallsKeep : Type 0
ImageCallsKeep =
    (p : Program) (parts : Parts) (input : List ℕ) → (q : IsImageOf p parts) → AreBytes input
    → (n m f : ℕ) (s t : State) → run p n (start p input) ≡ running s → next_of p s ≡ Some (instruction.Call f) → run p m (entered s f) ≡ running t
    → next_of p t ≡ Some instruction.Return → bytes_of p t.waiting ≡ bytes_of p (s.frame ∷ s.waiting)
    → ((k : ℕ) → k ≤ n → FitStack parts.stack p (run p k (start p input))) → ((k : ℕ) → k ≤ m → FitStack parts.stack p (run p k (entered s f))) → ((k : ℕ) → k ≤ m → IsWithin p s (run p k (entered s f)))
    → (k j : ℕ) × (v w : World) × (n < slack p * k) × (k ≤ most_start p + most_spent p n (start p input)) × (0 < j) × (j ≤ step_cost p (function_at p s.frame.function) (instruction.Call f) + most_spent p m (entered s f) + step_cost p (function_at p t.frame.function) instruction.Return)
    × (rvrun k (start_world (program_image parts) input) ≡ Running v) × StandsWith p q.assembled.env s v
    × (rvrun (k + j) (start_world (program_image parts) input) ≡ Running w) × BackFrom t (q.assembled.env (first_of p s.frame.function + (s.frame.at + 1))) v w
