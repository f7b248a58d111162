use Rattle.std.proofs.Common.{◌≡◌, ◌++◌, map, drop}
use Rattle.typed_ast.specs.View.{object_type_of}
use Rattle.tac.proofs.copies.copied_objects.Given as goal

abbrev pub invariant-loop-object : goal.invariant-loop-object
invariant-loop-object l = map object_type_of l.copies.items ++ map object_type_of (drop l.object-index l.objects) ≡ map object_type_of l.objects
