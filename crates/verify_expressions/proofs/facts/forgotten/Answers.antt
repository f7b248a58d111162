use Rattle.verify_expressions.proofs.Elements.{forgets_begin, forgets_next}
use Rattle.verify_expressions.proofs.facts.forgotten.Goals as goal

pub loop-n-init : goal.loop-n-init
loop-n-init c = forgets_begin _ _ _ c.new-out.ensures.items

pub loop-n-preserved-then-not-apart : goal.loop-n-preserved-then-not-apart
loop-n-preserved-then-not-apart c = c.loop-n.invariant

pub loop-n-preserved : goal.loop-n-preserved
loop-n-preserved c = forgets_next _ _ _ _ _ _ c.loop-n-test.true (c.is_apart-apart.ensures c.if-not-apart.false) c.loop-n.invariant c.in-Ok.ensures.items

pub returns : goal.returns
returns c = c.loop-n.invariant
