use Rattle.std.proofs.Common.{arith}
use Rattle.decls_linkage.proofs.Lists.{at_end}
use Rattle.decls_linkage.proofs.comparisons.same_parameters.Goals as goal

pub returns : goal.returns
returns c = at_end _ c.args.a.now c.args.b.now c.loop-index.index (omega (arith, c.loop-index.auto.index-end, c.loop-index-test.false)) c.loop-index.invariant.1 c.loop-index.invariant.0
