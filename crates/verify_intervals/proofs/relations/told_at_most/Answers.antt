use Rattle.verify_logic.proofs.Compares.{tells_at, at_most_yes, at_most_no}
use Rattle.verify_intervals.proofs.relations.told_at_most.Goals as goal

pub returns-then-truth : goal.returns-then-truth
returns-then-truth c = tells_at _ _ _ _ _ c.if-truth.true at_most_yes

pub returns-else-truth : goal.returns-else-truth
returns-else-truth c = tells_at _ _ _ _ _ c.if-truth.false at_most_no
