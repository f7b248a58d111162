use Rattle.verify_logic.proofs.Compares.{tells_at, other_yes, other_no}
use Rattle.verify_intervals.proofs.relations.told_unequal.Goals as goal

pub returns-then-truth : goal.returns-then-truth
returns-then-truth c = tells_at _ _ _ _ _ c.if-truth.true other_yes

pub returns-else-truth : goal.returns-else-truth
returns-else-truth c = tells_at _ _ _ _ _ c.if-truth.false other_no
