use Rattle.verify_intervals.proofs.Decisions.{never_straight, never_swapped}
use Rattle.verify_intervals.proofs.relations.never.Goals as goal

pub returns-then-swapped : goal.returns-then-swapped
returns-then-swapped c = λ t. never_swapped _ _ _ _ _ _ c.if-swapped.true c.in-Some.ensures (c.is_refuted-turned.ensures t)

pub returns-else-swapped : goal.returns-else-swapped
returns-else-swapped c = λ t. never_straight _ _ _ _ _ _ c.if-swapped.false c.in-Some.ensures (c.is_refuted-straight.ensures t)
