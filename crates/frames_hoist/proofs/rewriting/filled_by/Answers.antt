use Rattle.std.proofs.Common.{◌-◌, drop, arith}
use Rattle.frames_hoist.proofs.Placing.{filled_end}
use Rattle.frames_hoist.proofs.rewriting.filled_by.Goals as goal

pub returns : goal.returns
returns c =
    filled_end c.args.most c.args.start c.loop-number.number c.loop-number.count (drop c.loop-number.number c.args.code.now) (c.args.start - c.loop-number.number) _ (omega (arith, c.loop-number-test.false)) c.loop-number.invariant.0
