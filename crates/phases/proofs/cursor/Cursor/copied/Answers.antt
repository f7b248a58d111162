use Rattle.std.proofs.Common.{arith, ap, length}
use Rattle.std.proofs.lemmas.List.{length_push}
use Rattle.phases.proofs.SpellingLemmas.{copied_more}
use Rattle.phases.proofs.cursor.Cursor.copied.Goals as goal

pub loop-at-preserved : goal.loop-at-preserved
loop-at-preserved c =
    let e = c.in_ok-push.ensures.items in
    record {
      copied = rw e (copied_more c.args.self c.loop-at.at c.in-Some.step c.loop-at.copy.items c.loop-at.invariant.copied c.in-Some.ensures);
      few = omega (arith, ap length e, length_push c.loop-at.copy.items c.in-Some.step.byte);
    }
