use Rattle.verify_expressions.proofs.Steps.{learns_both}
use Rattle.verify_expressions.proofs.comparisons.both_learnt.Goals as goal

pub returns : goal.returns
returns c = learns_both _ _ _ _ _ _ _ _ _ _ c.in_ok-first.ensures c.in_ok-second.ensures c.in-Some.ensures c.in-Some-learnt.ensures
