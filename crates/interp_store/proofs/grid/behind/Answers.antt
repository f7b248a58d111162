use Rattle.interp_store.proofs.Shapes.{goes_no_further}
use Rattle.interp_store.proofs.grid.behind.Goals as goal

pub returns-in-None : goal.returns-in-None
returns-in-None c = goes_no_further c.args.path.now c.loop-i.i-index c.loop-i.rest.now _ c.in-None.ensures.cases c.loop-i-test.true c.loop-i.invariant
