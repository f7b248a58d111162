use Rattle.std.proofs.Common.{◌≡◌, map, take}
use Rattle.tree.specs.Capped.{capped32}
use Rattle.typed_ast.specs.View.{parameter_type_of}
use Rattle.typing_spec.specs.Units.{bytes_of_references}
use Rattle.typing_units.proofs.sizes.bytes_of_references.Given as goal

abbrev pub invariant-loop-parameter : goal.invariant-loop-parameter
invariant-loop-parameter l = l.total ≡ capped32 (bytes_of_references (map parameter_type_of (take l.parameter-index l.parameters)))
