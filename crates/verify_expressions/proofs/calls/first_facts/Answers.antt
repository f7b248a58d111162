use Rattle.verify_expressions.proofs.Elements.{below_begin, below_next}
use Rattle.verify_expressions.proofs.calls.first_facts.Goals as goal

pub loop-m-init : goal.loop-m-init
loop-m-init c = below_begin _ _ _ c.new-out.ensures.items

pub loop-m-preserved-then-not-below : goal.loop-m-preserved-then-not-below
loop-m-preserved-then-not-below c = c.loop-m.invariant

pub loop-m-preserved : goal.loop-m-preserved
loop-m-preserved c = below_next _ _ _ _ _ _ c.loop-m-test.true (c.is_below-below.ensures c.if-not-below.false) c.loop-m.invariant c.in-Ok.ensures.items

pub returns : goal.returns
returns c = c.loop-m.invariant
