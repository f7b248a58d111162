use Rattle.verify_logic.proofs.Facts.{found_none, found_more, found_all}
use Rattle.verify_expressions.proofs.facts.elements_read.Goals as goal

pub loop-n-init : goal.loop-n-init
loop-n-init c = found_none _ _ _ _

pub returns-then-past : goal.returns-then-past
returns-then-past c = found_all _ _ _ _ _ _ c.in-Some.ensures (c.is_past-past.ensures c.if-past.true) c.loop-n.invariant

pub loop-n-preserved : goal.loop-n-preserved
loop-n-preserved c = found_more _ _ _ _ _ _ _ c.in-Some-found.ensures c.hull-both.ensures.first c.hull-both.ensures.second c.loop-n.invariant
