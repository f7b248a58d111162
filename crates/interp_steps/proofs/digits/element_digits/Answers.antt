use Rattle.interp_steps.proofs.Given.{one_counted}
use Rattle.interp_steps.proofs.digits.element_digits.Goals as goal

pub loop-n-preserved : goal.loop-n-preserved
loop-n-preserved c = one_counted c.args.lengths.now c.loop-n.n-index _ _ _ c.loop-n-test.true c.in-Ok-multiply.ensures c.loop-n.invariant
