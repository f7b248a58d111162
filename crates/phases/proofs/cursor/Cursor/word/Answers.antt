use Rattle.phases.proofs.LexicalLemmas.{along_more, word_step}
use Rattle.phases.proofs.cursor.Cursor.word.Goals as goal

pub loop-step-preserved : goal.loop-step-preserved
loop-step-preserved c =
    along_more c.args.self c.loop-step.at c.in-Some.step _ _ _ _ c.loop-step.invariant c.in-Some.ensures (word_step c.loop-step.at c.in-Some.step c.in-Some.ensures (cc))
