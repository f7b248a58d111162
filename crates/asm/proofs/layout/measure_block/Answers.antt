use Rattle.std.proofs.Common.{arith}
use Rattle.asm.proofs.Grow.{room}
use Rattle.asm.specs.Layout.{all_short}
use Rattle.asm.proofs.layout.measure_block.Goals as goal

pub overflow_add-at : goal.overflow_add-at
overflow_add-at c = omega (arith, room all_short c.args.base c.args.items.now c.loop-i.i c.index-items-i.result (omega arith) c.index-items-i.is, c.loop-i.invariant.at_is, c.least-at.ensures.small, c.requires.low)
