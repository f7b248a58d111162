-- Judgements on a whole program.
use Rattle.std.specs.Prelude.{ℕ, List, Contains}
use Rattle.srcset.specs.declared.refusal.Pos.{Pos}
use Rattle.typing_spec.specs.Program.{Program}
use Rattle.csem.specs.Machine.{Ending, Ended, Undefined, TicksUsed}
use Rattle.csem.specs.Meaning.{answer}
use Rattle.verify_logic.specs.States.{AreBytes}

abbrev pub UndefinedOnlyAt : List Pos → Ending → Type 0
UndefinedOnlyAt listed (Ended status) = Unit {0}
UndefinedOnlyAt listed (Undefined act at) = Contains listed at
UndefinedOnlyAt listed TicksUsed = Unit {0}

-- on every input of bytes and with any number of ticks, undefined behaviour is met at one of these places or not at all
abbrev pub IsDefinedBut : Program → List Pos → Type 0
IsDefinedBut p listed = (n : ℕ) (input : List ℕ) → AreBytes input → UndefinedOnlyAt listed (answer n p input).ending

abbrev pub NotUndefined : Ending → Type 0
NotUndefined (Ended status) = Unit {0}
NotUndefined (Undefined act at) = ⊥
NotUndefined TicksUsed = Unit {0}

-- nor is it met anywhere
abbrev pub IsDefined : Program → Type 0
IsDefined p = (n : ℕ) (input : List ℕ) → AreBytes input → NotUndefined (answer n p input).ending
