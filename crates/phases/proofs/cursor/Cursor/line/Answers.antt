use Rattle.phases.proofs.LexicalLemmas.{along_far}
use Rattle.phases.proofs.PieceLemmas.{line_step}
use Rattle.phases.proofs.RunLemmas.{line_pass}
use Rattle.phases.proofs.cursor.Cursor.line.Goals as goal

pub loop-step-preserved : goal.loop-step-preserved
loop-step-preserved c =
    along_far c.args.self c.loop-step.at c.in-Some.step c.ordinary-run.result _ _ _ _ _ c.loop-step.invariant c.in-Some.ensures (line_step c.loop-step.at c.in-Some.step c.in-Some.ensures c.if-step-eq10.false) c.ordinary-run.ensures.spans (line_pass c.in-Some.step.next c.ordinary-run.result c.ordinary-run.ensures)
