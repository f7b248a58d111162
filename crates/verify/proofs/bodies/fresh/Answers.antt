use Rattle.verify.proofs.Steps.{one_more_fresh}
use Rattle.verify.proofs.bodies.fresh.Goals as goal

pub loop-n-preserved : goal.loop-n-preserved
loop-n-preserved c = one_more_fresh _ _ _ _ c.loop-n.invariant c.uninitialised-k.ensures c.in-Ok.ensures.items
