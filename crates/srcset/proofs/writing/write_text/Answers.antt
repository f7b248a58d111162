use Rattle.srcset.proofs.WritingLemmas.{write_step}
use Rattle.srcset.proofs.writing.write_text.Goals as goal

pub loop-at-preserved : goal.loop-at-preserved
loop-at-preserved g c =
    write_step (g.W.Write.contents c.args.writer.now) (g.W.Write.contents c.loop-at.writer) (g.W.Write.contents c.write_part.new.writer)
    c.args.bytes.now c.loop-at.at c.in-Some.count c.loop-at-test.true c.loop-at.invariant.1 c.in-Some.ensures.bound.1 c.in-Some.ensures.taken
