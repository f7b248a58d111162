use Rattle.verify_intervals.proofs.Decisions.{negates_zero, negates_nonzero, negates_any}
use Rattle.verify_intervals.proofs.operations.negated.Goals as goal

pub returns-then-zero : goal.returns-then-zero
returns-then-zero c = negates_zero _ _ (c.is_zero-zero.ensures c.if-zero.true) c.single-one.ensures

pub returns-then-nonzero : goal.returns-then-nonzero
returns-then-nonzero c = negates_nonzero _ _ (c.is_nonzero-nonzero.ensures c.if-nonzero.true) c.single-none.ensures

pub returns : goal.returns
returns c = negates_any _ _ c.truths.ensures
