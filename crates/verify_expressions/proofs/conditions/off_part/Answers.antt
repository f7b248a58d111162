use Rattle.verify_logic.proofs.Splits.{none_if_nonzero, zero_same}
use Rattle.verify_expressions.proofs.conditions.off_part.Goals as goal

pub returns-then-is_nonzero : goal.returns-then-is_nonzero
returns-then-is_nonzero c = none_if_nonzero _ _ (c.is_nonzero.ensures c.if-is_nonzero.true)

pub returns : goal.returns
returns c = zero_same _ _
