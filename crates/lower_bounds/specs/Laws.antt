-- The code of a program is sound and within its bounds.
use Rattle.std.specs.Prelude.{◌≡◌, ◌<◌, ℕ, ◌^◌, Bool, true, length, slice_get, Some}
use Rattle.typing_spec.specs.Program as typed
use Rattle.tac_code.specs.Code.{Function, Program, function_at}
use Rattle.tac_code.specs.Sound.{FunctionFits, IsSoundProgram}
use Rattle.tac_code.specs.Lowered.{IsChecked, IsCodeOf, IsLowered}
use Rattle.lower_wf.specs.Asked.{types_are_sized, is_asked}
use Rattle.lower_correct.specs.Bodies.{IsFunctionFor, IsCodeFor}

abbrev pub CodeIsSound : Type 0
CodeIsSound = (p : typed.Program) (q : Program) → IsChecked p → types_are_sized p ≡ true → IsCodeFor p q → IsSoundProgram q

-- the names in code of p exist in q: the literals and static objects, and at the number of each function one with as many parameters
pub record NamesAreThere (p : typed.Program) (q : Program) : Type 0 where
  pub literals : q.literals ≡ p.literals
  pub statics : q.statics ≡ p.statics
  pub callees : (n : ℕ) (f : typed.Function) → slice_get p.functions n ≡ Some f
      → (n < length q.functions) × (length (function_at q n).parameters ≡ length f.type.parameters)

-- so a function is sound by itself, whatever code the others have
abbrev pub FunctionIsSound : Type 0
FunctionIsSound = (p : typed.Program) (q : Program) → IsChecked p → types_are_sized p ≡ true → NamesAreThere p q
    → (k : ℕ) (f : typed.Function) (g : Function) → slice_get p.functions k ≡ Some f → (is_main : Bool) → IsFunctionFor p q is_main f g
    → FunctionFits q g × (length g.code < 2 ^ 32)

abbrev pub CodeIsBounded : Type 0
CodeIsBounded = (p : typed.Program) (q : Program) → IsChecked p → IsCodeFor p q
    → (k : ℕ) (f : typed.Function) (g : Function) → slice_get p.functions k ≡ Some f → slice_get q.functions k ≡ Some g → IsCodeOf f g

-- it meets the postcondition of lowering
abbrev pub CodeIsLowered : Type 0
CodeIsLowered = (p : typed.Program) (q : Program) → IsChecked p → is_asked p ≡ true → IsCodeFor p q → IsLowered p q
