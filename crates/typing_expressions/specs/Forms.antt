-- The meaning of the code's checked expressions.
use Rattle.std.specs.Prelude.{ℕ, List}
use Rattle.typing_expressions.specs.declared.forms.Elements.{Elements}
use Rattle.typing_expressions.specs.declared.forms.Checked as held
use Rattle.typing_expressions.specs.declared.forms.Checked.TheVariants as checked
use Rattle.typing_expressions.specs.declared.forms.Worth.{Worth}
use Rattle.typing_expressions.specs.declared.assignments.Target.{Target}
use Rattle.typed_ast.specs.View.{value_of, place_of}
use Rattle.typing_spec.specs.Types as type
use Rattle.typing_spec.specs.Scope.{Scope}
use Rattle.typing_spec.specs.Expressions as typed

abbrev pub elements_of : Elements → type.ObjectType
elements_of e = record { element = e.element; constant = e.constant; lengths = e.lengths.now }

abbrev pub checked_of : held.Checked → typed.Checked
checked_of (checked.Value at t e) = typed.value at t (value_of e)
checked_of (checked.Object at t k p) = typed.object at t k (place_of p)
checked_of (checked.Array at n e p) = typed.array at (type.complete (type.array_of n (elements_of e))) (place_of p)
checked_of (checked.Unsized at e p) = typed.array at (type.unknown_size (elements_of e)) (place_of p)
checked_of (checked.Reference at e p) = typed.reference at (elements_of e) (place_of p)
checked_of (checked.Nothing at e) = typed.nothing at (value_of e)
checked_of (checked.Designator at) = typed.designator at

abbrev pub worth_of : Worth → typed.Worth
worth_of w = record { type = w.ty; e = value_of w.value }

abbrev pub target_of : Target → typed.Target
target_of t = record { type = t.ty; place = place_of t.place }

-- a scope with the unit's texts and the string literals so far
abbrev pub seen : List (List ℕ) → List ℕ → Scope → Scope
seen texts literals s = record s { texts = texts; literals = literals }
