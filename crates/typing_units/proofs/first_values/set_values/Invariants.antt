use Rattle.std.proofs.Common.{◌≡◌, [], List, map}
use Rattle.typed_ast.specs.View.{static_of}
use Rattle.typing_spec.specs.Scope.{StaticObject}
use Rattle.typing_spec.specs.Units.{statics_from}
use Rattle.typing_units.proofs.Values.{SetSoFar}
use Rattle.typing_units.proofs.first_values.set_values.Given as goal

abbrev pub invariant-loop-last : goal.invariant-loop-last
invariant-loop-last l = (os : List StaticObject) → map static_of l.initial.all.items ≡ statics_from 0 os [] → SetSoFar os l.initial.given.items l.given.items l.all.items

abbrev pub decreases-loop-last : goal.decreases-loop-last
decreases-loop-last l = goal.left-loop-last l
