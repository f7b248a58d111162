use Rattle.frames.proofs.Filling.{one_low_byte}
use Rattle.frames.proofs.statics.put_low_bytes.Goals as goal

pub loop-preserved : goal.loop-preserved
loop-preserved c =
    one_low_byte c.loop.bytes.items c.push.new.self.items _ c.args.count c.loop.counter c.loop.rest c.loop-test.true c.in_ok-push.ensures.items c.loop.invariant
