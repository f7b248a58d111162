use Rattle.verify_intervals.proofs.Decisions.{refutes_left, refutes_right}
use Rattle.verify_intervals.proofs.relations.is_refuted.Goals as goal

pub returns-then-left : goal.returns-then-left
returns-then-left c = λ t. refutes_left _ _ _ _ _ c.narrowed-pair.ensures (c.is_empty-left.ensures c.if-left.true)

pub returns : goal.returns
returns c = λ t. refutes_right _ _ _ _ _ c.narrowed-pair.ensures (c.is_empty.ensures t)
