use Rattle.std.proofs.Common.{◌≡◌, true, refl}
use Rattle.typed_ast.specs.View.{static_of}
use Rattle.typing_spec.specs.WellTyped.{values_fit}
use Rattle.test_tac_soundness.proofs.Lists.{false-true, one_more, not_all}
use Rattle.test_tac_soundness.proofs.statics.have_values.Goals as goal

pub loop-number-preserved : goal.loop-number-preserved
loop-number-preserved c = record { each = one_more (λ o. values_fit o.type.element o.values ≡ true) static_of c.args.statics.now c.loop-number.number c.index-statics-number.result c.loop-number.invariant.each c.loop-number-test.true c.index-statics-number.is (c.if-not-has_values.ensures.0 refl) }

pub returns-then-not-has_values : goal.returns-then-not-has_values
returns-then-not-has_values c = (λ t. absurd (false-true t), λ fit. not_all (λ o. values_fit o.type.element o.values ≡ true) static_of c.args.statics.now c.loop-number.number c.index-statics-number.result c.loop-number-test.true c.index-statics-number.is c.if-not-has_values.ensures.1 fit.each)
