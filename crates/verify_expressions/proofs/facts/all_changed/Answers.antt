use Rattle.verify_expressions.proofs.Elements.{changes_begin, changes_next}
use Rattle.verify_expressions.proofs.facts.all_changed.Goals as goal

pub loop-n-init : goal.loop-n-init
loop-n-init c = changes_begin _ _ _ _ _ c.new-out.ensures.items

pub loop-n-preserved : goal.loop-n-preserved
loop-n-preserved c = changes_next _ _ _ _ _ _ _ _ _ c.loop-n-test.true c.one_changed-g.ensures c.loop-n.invariant c.in-Ok.ensures.items

pub returns : goal.returns
returns c = c.loop-n.invariant
