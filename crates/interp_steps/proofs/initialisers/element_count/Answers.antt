use Rattle.std.proofs.Common.{rules}
use Rattle.interp_steps.proofs.Given.{one_counted}
use Rattle.interp_steps.proofs.initialisers.element_count.Goals as goal

pub loop-n-preserved : goal.loop-n-preserved
loop-n-preserved c = one_counted c.args.lengths.now c.loop-n.n-index c.loop-n.product c.in-Some.next _ c.loop-n-test.true (search rules) c.loop-n.invariant
