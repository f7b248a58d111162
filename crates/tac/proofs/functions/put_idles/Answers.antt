use Rattle.std.proofs.Common.{suc, ◌+◌, length, arith}
use Rattle.tac.proofs.Whole.{idles_next, idles_all}
use Rattle.tac.proofs.functions.put_idles.Goals as goal

pub loop-preserved : goal.loop-preserved
loop-preserved c = idles_next (suc c.loop.index) (suc (c.loop.index + 1)) (omega arith) c.loop.invariant c.in_ok-put-2.ensures

pub returns : goal.returns
returns c = idles_all c.loop.index (length c.args.parameters.now) (omega (arith, c.loop-test.false, c.loop.auto.index-end)) c.loop.invariant
