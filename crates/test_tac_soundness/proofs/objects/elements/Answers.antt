use Rattle.std.proofs.Common.{◌∙◌}
use Rattle.frames.proofs.Products.{capped_more}
use Rattle.test_tac_soundness.proofs.objects.elements.Goals as goal

pub loop-length-preserved : goal.loop-length-preserved
loop-length-preserved c = c.times-count.ensures ∙ capped_more c.args.lengths.now c.loop-length.length-index 0 16777217 c.loop-length.count c.loop-length-test.true c.loop-length.invariant
