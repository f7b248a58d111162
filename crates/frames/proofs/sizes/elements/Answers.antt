use Rattle.std.proofs.Common.{◌∙◌}
use Rattle.frames.proofs.Products.{capped_more}
use Rattle.frames.proofs.sizes.elements.Goals as goal

pub loop-length-preserved : goal.loop-length-preserved
loop-length-preserved c =
    c.saturating_mul-count.ensures ∙ capped_more c.args.lengths.now c.loop-length.length-index 0 18446744073709551615 c.loop-length.count c.loop-length-test.true c.loop-length.invariant
