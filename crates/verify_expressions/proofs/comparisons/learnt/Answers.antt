use Rattle.verify_expressions.proofs.Steps.{straight_some, swapped_some}
use Rattle.verify_expressions.proofs.comparisons.learnt.Goals as goal

pub returns-then-swapped : goal.returns-then-swapped
returns-then-swapped c = swapped_some _ _ _ _ _ _ _ _ _ _ _ c.both_restricted-done.result c.if-swapped.true c.in-Some.ensures c.narrowed-turned.ensures c.both_restricted-done.ensures

pub returns-else-swapped : goal.returns-else-swapped
returns-else-swapped c = straight_some _ _ _ _ _ _ _ _ _ _ _ c.both_restricted-ready.result c.if-swapped.false c.in-Some.ensures c.narrowed-pair.ensures c.both_restricted-ready.ensures
