use Rattle.std.proofs.Common.{map}
use Rattle.typed_ast.specs.View.{object_type_of}
use Rattle.test_tac_soundness.specs.inside.Parts.{AreSized}
use Rattle.test_tac_soundness.proofs.objects.are_sized.Given as goal

abbrev pub invariant-loop-number : goal.invariant-loop-number
invariant-loop-number l = AreSized (map object_type_of l.objects) l.number
