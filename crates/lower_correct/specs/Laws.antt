-- The code of a program simulates the program.
use Rattle.std.specs.Prelude.{◌≡◌, true, ℕ, List}
use Rattle.typing_spec.specs.Program as typed
use Rattle.tac_code.specs.Code.{Program}
use Rattle.tac_code.specs.Sound.{AreBytes}
use Rattle.tac_code.specs.Lowered.{IsChecked, Behaves}
use Rattle.lower_wf.specs.Asked.{is_asked}
use Rattle.lower_correct.specs.Bodies.{IsCodeFor}

abbrev pub CodeBehaves : Type 0
CodeBehaves = (p : typed.Program) (q : Program) (input : List ℕ) → IsChecked p → is_asked p ≡ true → IsCodeFor p q
    → AreBytes input → Behaves p q input
