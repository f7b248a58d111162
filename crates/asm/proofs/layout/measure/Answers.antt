use Rattle.std.proofs.Common.{arith}
use Rattle.asm.proofs.Grow.{room}
use Rattle.asm.specs.inside.Choice.{longs}
use Rattle.asm.proofs.layout.measure.Goals as goal

pub overflow_add-at : goal.overflow_add-at
overflow_add-at c = omega (arith, room (longs c.args.long.now) c.args.base c.args.items.now c.loop-i.i c.index-items-i.result c.loop-i-test.true c.index-items-i.is, c.loop-i.invariant.at_is, c.size-at.ensures.small)
