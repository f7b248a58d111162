-- A unit that breaks no constraint has a program that is typed, and satisfies all assumptions of lowering.
use Rattle.std.specs.Prelude.{◌≡◌, ◌≤◌, ℕ, true, List}
use Rattle.srcset.specs.declared.refusal.Pos.{Pos}
use Rattle.tree.specs.Tree.{ExternalTree}
use Rattle.typing_spec.specs.Program.{Program}
use Rattle.typing_spec.specs.Verdict.{fine}
use Rattle.typing_spec.specs.WellTyped.{is_typed}
use Rattle.typing_spec.specs.Units.{unit_typed, weight_limit}
use Rattle.tac_code.specs.Lowered.{IsChecked}
use Rattle.lower_wf.specs.Laws.{AreTexts, IsWithinNodes}

-- the program of a unit is typed
abbrev pub ProgramIsTyped : Type 0
ProgramIsTyped = (stack : ℕ) (texts : List (List ℕ)) (whole : Pos) (unit : List ExternalTree) (p : Program) → stack ≤ weight_limit → AreTexts texts → IsWithinNodes unit
    → unit_typed stack texts whole unit ≡ fine p → is_typed p ≡ true

-- the program of a unit satisfies all assumptions of lowering
abbrev pub ProgramIsChecked : Type 0
ProgramIsChecked = (stack : ℕ) (texts : List (List ℕ)) (whole : Pos) (unit : List ExternalTree) (p : Program) → stack ≤ weight_limit → AreTexts texts → IsWithinNodes unit
    → unit_typed stack texts whole unit ≡ fine p → IsChecked p
