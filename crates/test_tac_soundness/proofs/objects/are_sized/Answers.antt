use Rattle.std.proofs.Common.{◌<◌, refl}
use Rattle.typed_ast.specs.View.{object_type_of}
use Rattle.typing_spec.specs.Types.{size_of_object}
use Rattle.test_tac_soundness.proofs.Lists.{false-true, one_more, not_all}
use Rattle.test_tac_soundness.proofs.objects.are_sized.Goals as goal

pub loop-number-preserved : goal.loop-number-preserved
loop-number-preserved c = record { each = one_more (λ o. 0 < size_of_object o) object_type_of c.args.objects.now c.loop-number.number c.index-objects-number.result c.loop-number.invariant.each c.loop-number-test.true c.index-objects-number.is (c.if-not-is_sized.ensures.0 refl) }

pub returns-then-not-is_sized : goal.returns-then-not-is_sized
returns-then-not-is_sized c = (λ t. absurd (false-true t), λ fit. not_all (λ o. 0 < size_of_object o) object_type_of c.args.objects.now c.loop-number.number c.index-objects-number.result c.loop-number-test.true c.index-objects-number.is c.if-not-is_sized.ensures.1 fit.each)
