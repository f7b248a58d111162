use Rattle.std.proofs.Common.{subst, sym, refl}
use Rattle.tac_code.specs.Sound.{AreBytes}
use Rattle.test_tac_soundness.proofs.Lists.{false-true, one_more, not_all}
use Rattle.test_tac_soundness.proofs.Values.{all_bytes, fit_bytes}
use Rattle.test_tac_soundness.proofs.statics.have_bytes.Goals as goal

pub loop-number-preserved : goal.loop-number-preserved
loop-number-preserved c = record {
  each = one_more AreBytes (λ text. text.items) c.args.literals.now c.loop-number.number c.index-literals-number.result c.loop-number.invariant.each c.loop-number-test.true c.index-literals-number.is
      (subst AreBytes c.deref.ensures.value (all_bytes c.deref.result.now (c.if-not-are_bytes.ensures.0 refl)));
}

pub returns-then-not-are_bytes : goal.returns-then-not-are_bytes
returns-then-not-are_bytes c = (
  λ t. absurd (false-true t),
  λ fit. not_all AreBytes (λ text. text.items) c.args.literals.now c.loop-number.number c.index-literals-number.result c.loop-number-test.true c.index-literals-number.is
      (λ each. c.if-not-are_bytes.ensures.1 (fit_bytes c.deref.result.now (subst AreBytes (sym c.deref.ensures.value) each))) fit.each,
)
