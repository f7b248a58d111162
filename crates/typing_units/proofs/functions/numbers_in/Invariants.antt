use Rattle.std.proofs.Common.{◌≡◌, ◌+◌, ◌≤◌, drop, map}
use Rattle.typed_ast.specs.View.{parameter_type_of}
use Rattle.typing_spec.specs.Units.{numbers_in}
use Rattle.typing_units.proofs.functions.numbers_in.Given as goal

abbrev pub invariant-loop-parameter : goal.invariant-loop-parameter
invariant-loop-parameter l = (l.count + numbers_in (map parameter_type_of (drop l.parameter-index l.parameters)) ≡ numbers_in (map parameter_type_of l.parameters)) × (l.count ≤ l.parameter-index)
