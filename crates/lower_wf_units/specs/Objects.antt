-- The part on objects of the assumptions of lowering (`FunctionIsChecked`), for a unit that breaks no constraint.
use Rattle.std.specs.Prelude.{◌≡◌, ◌≤◌, ◌<◌, ℕ, true, List, slice_get, Some}
use Rattle.srcset.specs.declared.refusal.Pos.{Pos}
use Rattle.tree.specs.Tree.{ExternalTree}
use Rattle.typing_spec.specs.Types.{ObjectType, size_of_object}
use Rattle.typing_spec.specs.Program.{Function, Program}
use Rattle.typing_spec.specs.Verdict.{fine}
use Rattle.typing_spec.specs.Uses.{uses_in_statement}
use Rattle.typing_spec.specs.WellTyped.{is_typed}
use Rattle.typing_spec.specs.Units.{unit_typed, weight_limit}
use Rattle.tac_code.specs.Designated.{in_function}
use Rattle.tac_code.specs.Lowered.{IsChecked}
use Rattle.lower_wf.specs.Laws.{AreTexts, IsWithinNodes}
use Rattle.lower_wf.specs.Settled.{Present}

-- no object of a function is without bytes (6.7p7, 6.7.6.2p1)
abbrev pub ObjectsAreSized : Type 0
ObjectsAreSized = (stack : ℕ) (texts : List (List ℕ)) (whole : Pos) (unit : List ExternalTree) (p : Program) → unit_typed stack texts whole unit ≡ fine p
    → (k : ℕ) (f : Function) → slice_get p.functions k ≡ Some f → (n : ℕ) (o : ObjectType) → slice_get f.objects n ≡ Some o → 0 < size_of_object o

-- the objects and functions that a function uses have a definition (6.9p3, p5)
abbrev pub UsesArePresent : Type 0
UsesArePresent = (stack : ℕ) (texts : List (List ℕ)) (whole : Pos) (unit : List ExternalTree) (p : Program) → unit_typed stack texts whole unit ≡ fine p
    → (k : ℕ) (f : Function) → slice_get p.functions k ≡ Some f → Present p (uses_in_statement f.body)

-- each designation in a function of a typed program is defined
abbrev pub DesignatedAreDefined : Type 0
DesignatedAreDefined = (stack : ℕ) (texts : List (List ℕ)) (whole : Pos) (unit : List ExternalTree) (p : Program) → unit_typed stack texts whole unit ≡ fine p → is_typed p ≡ true
    → (k : ℕ) (f : Function) → slice_get p.functions k ≡ Some f → in_function p f ≡ true

-- a typed program of a unit satisfies all assumptions of lowering
abbrev pub TypedIsChecked : Type 0
TypedIsChecked = (stack : ℕ) (texts : List (List ℕ)) (whole : Pos) (unit : List ExternalTree) (p : Program) → stack ≤ weight_limit → AreTexts texts → IsWithinNodes unit
    → unit_typed stack texts whole unit ≡ fine p → is_typed p ≡ true → IsChecked p
