use Rattle.verify_intervals.proofs.Operators.{minus_some}
use Rattle.verify_intervals.proofs.Decisions.{not_rule}
use Rattle.verify_intervals.proofs.operations.sign.Goals as goal

pub returns-in-Minus : goal.returns-in-Minus
returns-in-Minus c = minus_some c.args.op c.args.ty c.args.i c.conversion-a.result c.difference_from_zero.result c.in-Minus.is c.conversion-a.ensures c.difference_from_zero.ensures

pub returns-in-Not : goal.returns-in-Not
returns-in-Not c = not_rule _ _ _ _ _ c.in-Not.is c.conversion-a.ensures c.negated-truth.ensures
