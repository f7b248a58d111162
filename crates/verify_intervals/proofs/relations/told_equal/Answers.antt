use Rattle.verify_logic.proofs.Compares.{tells_at, same_yes, same_no}
use Rattle.verify_intervals.proofs.relations.told_equal.Goals as goal

pub returns-then-truth : goal.returns-then-truth
returns-then-truth c = tells_at _ _ _ _ _ c.if-truth.true same_yes

pub returns-else-truth : goal.returns-else-truth
returns-else-truth c = tells_at _ _ _ _ _ c.if-truth.false same_no
