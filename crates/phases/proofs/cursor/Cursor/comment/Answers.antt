use Rattle.phases.proofs.PieceLemmas.{comment_far, comment_step, comment_closed, comment_end}
use Rattle.phases.proofs.cursor.Cursor.comment.Goals as goal

pub returns-then-ends_comment : goal.returns-then-ends_comment
returns-then-ends_comment c =
    comment_closed c.args.self c.loop-step.at c.in-Some.step _ _ c.loop-step.count c.loop-step.invariant c.in-Some.ensures (comment_end c.loop-step.star c.loop-step.at c.in-Some.step c.in-Some.ensures (cc))

pub loop-step-preserved : goal.loop-step-preserved
loop-step-preserved c =
    comment_far c.args.self c.loop-step.at c.in-Some.step c.within_comment-run.result _ _ _ _ c.loop-step.count c.loop-step.invariant c.in-Some.ensures (comment_step c.loop-step.star c.loop-step.at c.in-Some.step c.in-Some.ensures (cc)) c.within_comment-run.ensures.spans c.within_comment-run.ensures.left
