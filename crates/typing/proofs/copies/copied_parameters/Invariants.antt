use Rattle.std.proofs.Common.{◌≡◌, ◌++◌, map, drop}
use Rattle.typed_ast.specs.View.{parameter_type_of}
use Rattle.typing.proofs.copies.copied_parameters.Given as goal

abbrev pub invariant-loop-parameter : goal.invariant-loop-parameter
invariant-loop-parameter l = map parameter_type_of l.copies.items ++ map parameter_type_of (drop l.parameter-index l.parameters) ≡ map parameter_type_of l.parameters
