use Rattle.typing_units.proofs.Bytes.{next_length}
use Rattle.typing_units.proofs.sizes.elements.Goals as goal

pub loop-length-preserved : goal.loop-length-preserved
loop-length-preserved c = next_length c.args.lengths.now c.loop-length.length-index 0 c.loop-length.count c.saturating_mul-count.result c.loop-length-test.true c.loop-length.invariant c.saturating_mul-count.ensures
