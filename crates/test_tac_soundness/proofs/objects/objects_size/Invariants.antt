use Rattle.std.proofs.Common.{◌≡◌, ◌≤◌, ◌+◌, drop, map, min}
use Rattle.typed_ast.specs.View.{object_type_of}
use Rattle.typing_spec.specs.Units.{bytes_of_objects}
use Rattle.test_tac_soundness.proofs.objects.objects_size.Given as goal

abbrev pub invariant-loop-object : goal.invariant-loop-object
invariant-loop-object l = record {
  counted : min (l.total + bytes_of_objects (map object_type_of (drop l.object-index l.objects))) 16777217 ≡ min (bytes_of_objects (map object_type_of l.objects)) 16777217;
  few : l.total ≤ 16777217;
}
