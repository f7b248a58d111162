use Rattle.phases.proofs.ReadingLemmas.{skips_more, past_at, past_at_end}
use Rattle.phases.proofs.cursor.Cursor.past_splices.Goals as goal

pub loop-step-preserved : goal.loop-step-preserved
loop-step-preserved c =
    skips_more c.args.self c.loop-step.at c.in-Some-after_splice.after c.in-Some.step c.loop-step.invariant c.in-Some.ensures c.in-Some-after_splice.ensures

pub returns-in-None-clause-past : goal.returns-in-None-clause-past
returns-in-None-clause-past c = past_at c.loop-step.at c.in-Some.step c.in-Some.ensures c.in-None.ensures

pub returns-clause-past : goal.returns-clause-past
returns-clause-past c = past_at_end c.loop-step.at c.in_default.ensures
