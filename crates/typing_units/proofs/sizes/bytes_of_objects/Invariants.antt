use Rattle.std.proofs.Common.{◌≡◌, map, take}
use Rattle.tree.specs.Capped.{capped32}
use Rattle.typed_ast.specs.View.{object_type_of}
use Rattle.typing_spec.specs.Units.{bytes_of_objects}
use Rattle.typing_units.proofs.sizes.bytes_of_objects.Given as goal

abbrev pub invariant-loop-object : goal.invariant-loop-object
invariant-loop-object l = l.total ≡ capped32 (bytes_of_objects (map object_type_of (take l.object-index l.objects)))
