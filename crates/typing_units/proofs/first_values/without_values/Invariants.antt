use Rattle.std.proofs.Common.{◌≡◌, map}
use Rattle.typed_ast.specs.View.{static_of}
use Rattle.typing_units.proofs.Values.{empty_of}
use Rattle.typing_units.proofs.first_values.without_values.Given as goal

abbrev pub invariant-loop-object : goal.invariant-loop-object
invariant-loop-object l = map static_of l.all.items ≡ map empty_of l.yielded
