-- The theorem about the compiler in one statement: what is promised of each file that it returns.
use Rattle.std.specs.Prelude.{◌≡◌, ◌≤◌, ℕ, ◌+◌, ◌*◌, List, reverse}
use Rattle.rv32.specs.declared.state.Cause.{Cause}
use Rattle.srcset.specs.Files.{Files}
use Rattle.loader.specs.File.{Image}
use Rattle.sim.specs.Runs as sim
use Rattle.sim.specs.Runs.{World, Running, Trapped}
use Rattle.typing_spec.specs.Program.{Program}
use Rattle.csem.specs.Machine.{Ended}
use Rattle.csem.specs.Meaning.{answer}
use Rattle.cc_backend.specs.Runs.{IsInput}
use Rattle.cc_backend.specs.Made.{IsFileOf}
use Rattle.cc.specs.declared.compiling.Built.{Built}
use Rattle.cc.specs.Made.{IsMade}
use Rattle.cc_laws.specs.Laws.{StaysDefined, HasImage, run_of, done_in, IsBeginning, IsInside, TouchesNothingBelow, IsLaidOut, CallsAreKept, MainIsKept}
use Rattle.cc_laws.specs.Reserved.{AreReserved}
use Rattle.cc_laws.specs.Words.{CallsPassWords}
use Rattle.cc_laws.specs.Overflow.{IsAlwaysDefined, GoesUpToOverflow}
use Rattle.cc_laws.specs.Frames.{StaysWithinFrames, RunsWithinFrames}

-- If there is no undefined behaviour, and the stack suffices: the file does all that the abstract machine does and nothing else, ends if that ends, never traps and
-- stays in its memory; each call, and main, keeps the calling convention, and passes and returns the words of the program's own arguments and results; and at no instruction is anything in the stack below the stack pointer loaded or stored.
pub record DoesTheSame {stack : ℕ} {p : Program} {file frames : List ℕ} (made : IsFileOf stack p file frames) (image : Image) (input : List ℕ) : Type 0 where
  pub does_all : (n : ℕ) → (k : ℕ) × (done_in (run_of image input k) ≡ (answer n p input).trace)
  pub does_no_more : (k : ℕ) → (n : ℕ) × IsBeginning (done_in (run_of image input k)) (answer n p input).trace
  pub ends_only_so : (k status : ℕ) (w : World) → run_of image input k ≡ sim.Ended status w → (n : ℕ) × ((answer n p input).ending ≡ Ended status) × ((answer n p input).trace ≡ reverse w.trace)
  pub never_traps : (k : ℕ) (c : Cause) (w : World) → run_of image input k ≡ Trapped c w → ⊥
  pub stays_inside : (k : ℕ) (w : World) → run_of image input k ≡ Running w → IsInside image.space w.machine
  pub calls_are_kept : CallsAreKept made image input
  pub main_is_kept : MainIsKept made image input
  pub calls_pass_words : CallsPassWords p made image input
  pub touches_nothing_below : TouchesNothingBelow made.parts image input

-- on one input of bytes
pub record OnInput {stack : ℕ} {p : Program} {file frames : List ℕ} (made : IsFileOf stack p file frames) (image : Image) (input : List ℕ) : Type 0 where
  -- the stack suffices by the weights that the source gives, or by the frames in the file, which are never larger
  pub within_stack : StaysDefined stack p input → DoesTheSame made image input
  pub within_frames : StaysWithinFrames stack frames p input → DoesTheSame made image input
  pub beyond_stack : IsAlwaysDefined p input → GoesUpToOverflow made.parts p image input
  pub by_frames : RunsWithinFrames stack p frames image input
  -- up to undefined behaviour if there is some, and whatever would come later
  pub so_far : (n : ℕ) → (answer n p input).greatest ≤ stack
      → (k : ℕ) × (done_in (run_of image input k) ≡ (answer n p input).trace) × ((j : ℕ) → j ≤ k → IsBeginning (done_in (run_of image input j)) (answer n p input).trace)
  pub in_time : (n status : ℕ) → (answer n p input).ending ≡ Ended status → (answer n p input).greatest ≤ stack
      → (k : ℕ) × (w : World) × (k ≤ 64 * n + 64) × (run_of image input k ≡ sim.Ended status w) × (reverse w.trace ≡ (answer n p input).trace)
  -- gp is set by the start alone, and tp stays 0, whatever the program does
  pub reserved : AreReserved (λ k w. run_of image input k ≡ Running w)

-- for each file that the compiler returns; `compiles` of `IsMade` states of which program
abbrev pub TheTheorem : Type 0
TheTheorem =
    (stack : ℕ) (set : Files) (name : List ℕ) (built : Built) (made : IsMade stack set name built)
    → HasImage built.elf.items (λ image. IsLaidOut made.file.parts image.space × (made.file.parts.stack ≡ stack) × ((input : List ℕ) → IsInput input → OnInput made.file image input))
