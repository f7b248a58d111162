-- The words that calls pass and return: those of three-address code are in the temporaries of the flat code that is made of it.
use Rattle.std.specs.Prelude.{◌≡◌, ◌≤◌, ℕ, ◌+◌, ◌*◌, List}
use Rattle.typing_spec.specs.Program as typed
use Rattle.csem.specs.History.{Entry}
use Rattle.csem.specs.Laws.{Grows}
use Rattle.csem.specs.Machine as machine
use Rattle.csem.specs.Machine.{Stops, Ended, TicksUsed}
use Rattle.csem.specs.Meaning.{cstep}
use Rattle.tac_code.specs.Code as tac
use Rattle.tac_code.specs.Run as tac_run
use Rattle.tac_code.specs.Sound.{AreBytes}
use Rattle.frames_code.specs.Code as flat
use Rattle.frames_code.specs.Run as flat_run
use Rattle.frames.specs.Flattened.{before, behind, IsAtCall}
use Rattle.frames_layout.specs.LaidOut.{pace}
use Rattle.cc_backend.specs.Made.{IsFlatCodeOf}

-- To a state of flat code f belongs one of three-address code q, at some step of its run, whose history is the beginning of this one: the same calls are active,
-- and where f is about to call or to return, q is too, with the same words in its temporaries, or the same result.
pub record IsAsMeant (q : tac.Program) (f : flat.Program) (input : List ℕ) (history : List Entry) (s : flat_run.State) : Type 0 where
  pub step : ℕ
  pub state : tac_run.State
  pub is : before q input step ≡ tac_run.running state
  pub within : Grows state.history history
  pub calls : flat_run.active s ≡ tac_run.open_calls state
  pub at_call : IsAtCall q f state s

-- So it is with a program's flat code: where the abstract machine has used n ticks, in its first steps, and where that has ended, in all steps.
abbrev pub StepsAreAsMeant : Type 0
StepsAreAsMeant =
    (p : typed.Program) (f : flat.Program) (input : List ℕ) → (made : IsFlatCodeOf p f) → AreBytes input
    → ((n : ℕ) (s : machine.State) → cstep n p input ≡ Stops TicksUsed s
    → (k : ℕ) (u : flat_run.State) → pace * k + 1 ≤ n → behind f input k ≡ flat_run.running u → IsAsMeant made.code f input s.history u)
    × ((n status : ℕ) (s : machine.State) → cstep n p input ≡ Stops (Ended status) s
    → (k : ℕ) (u : flat_run.State) → behind f input k ≡ flat_run.running u → IsAsMeant made.code f input s.history u)
