use Rattle.verify_logic.proofs.Compares.{tells_at, less_yes, less_no}
use Rattle.verify_intervals.proofs.relations.told_less.Goals as goal

pub returns-then-truth : goal.returns-then-truth
returns-then-truth c = tells_at _ _ _ _ _ c.if-truth.true less_yes

pub returns-else-truth : goal.returns-else-truth
returns-else-truth c = tells_at _ _ _ _ _ c.if-truth.false less_no
