-- How a built file runs if its reported frames fit the stack: the premise about the stack in bytes instead of weights.
use Rattle.std.specs.Prelude.{◌≡◌, ◌≤◌, ◌<◌, ℕ, ◌+◌, ◌*◌, List, slice_get}
use Rattle.srcset.specs.declared.refusal.Pos.{Pos}
use Rattle.ctypes.specs.declared.operators.Undef.{Undef}
use Rattle.loader.specs.File.{Image}
use Rattle.typing_spec.specs.Program.{Program}
use Rattle.csem.specs.History.{greatest_sum}
use Rattle.csem.specs.Machine.{State, Stops, Ended, Undefined, TicksUsed}
use Rattle.csem.specs.Meaning.{cstep, answer, last_of}
use Rattle.cc_backend.specs.Runs.{IsInput, bytes_or_none, Reaches, EndsWith, GoesOnWith}
use Rattle.cc_backend.specs.Made.{IsFileOf}
use Rattle.cc_laws.specs.Laws.{IsDefined, HasImage}

-- the bytes of the frame of a function by its number
abbrev pub frame_in : (frames : List ℕ) → ℕ → ℕ
frame_in frames f = bytes_or_none (slice_get frames f)

-- for every number of ticks, the program meets no undefined behaviour on this input, and the frames of its active calls never take more than the stack together
abbrev pub StaysWithinFrames : (stack : ℕ) (frames : List ℕ) → Program → (input : List ℕ) → Type 0
StaysWithinFrames stack frames p input = (n : ℕ) → IsDefined (answer n p input).ending × (greatest_sum (frame_in frames) (last_of (cstep n p input)).history ≤ stack)

-- If the frames of the calls active at one time never take more than the stack together, the file does what the abstract machine does: it ends
-- with its status, or goes on as it does, in at most so many instructions; where that meets undefined behaviour, it comes to have done all that was done before.
pub record RunsWithinFrames (stack : ℕ) (p : Program) (frames : List ℕ) (image : Image) (input : List ℕ) : Type 0 where
  pub ends : (n status : ℕ) (s : State) → cstep n p input ≡ Stops (Ended status) s → greatest_sum (frame_in frames) s.history ≤ stack
      → Reaches image input (60 * n + 68) (EndsWith image input status s)
  pub slack : ℕ
  pub goes_on : (n : ℕ) (s : State) → cstep n p input ≡ Stops TicksUsed s → greatest_sum (frame_in frames) s.history ≤ stack
      → Reaches image input (60 * n + 66) (λ k w. (n < slack * k) × GoesOnWith image input frames s k w)
  pub stops : (n : ℕ) (act : Undef) (at : Pos) (s : State) → cstep n p input ≡ Stops (Undefined act at) s → greatest_sum (frame_in frames) s.history ≤ stack
      → Reaches image input (60 * n + 66) (GoesOnWith image input frames s)

-- this holds of each file made of a program
abbrev pub FilesRunWithinFrames : Type 0
FilesRunWithinFrames =
    (stack : ℕ) (p : Program) (file frames : List ℕ) → IsFileOf stack p file frames
    → HasImage file (λ image. (input : List ℕ) → IsInput input → RunsWithinFrames stack p frames image input)
