use Rattle.std.proofs.Common.{refl, ap, ◌∙◌}
use Rattle.phases.specs.inside.Along.{plus}
use Rattle.phases.proofs.LexicalLemmas.{close_far, close_here, close_step}
use Rattle.phases.proofs.ReadingLemmas.{spans_join, spans_step}
use Rattle.phases.proofs.cursor.Cursor.to_close.Goals as goal

pub returns-then-closes : goal.returns-then-closes
returns-then-closes c =
    record {
      count_is = c.loop-step.invariant.sum_is ∙ ap (plus c.loop-step.count) (close_here _ _ _ c.loop-step.at c.in-Some.step c.in-Some.ensures c.if-step-eq10.false (cc));
      spans = spans_join c.args.self c.loop-step.at c.in-Some.step.next c.loop-step.count 1 c.loop-step.invariant.spans (spans_step c.loop-step.at c.in-Some.step c.in-Some.ensures);
    }

pub loop-step-preserved : goal.loop-step-preserved
loop-step-preserved c =
    close_far c.args.self c.loop-step.at c.in-Some.step c.within_literal-run.result _ _ _ _ _ c.loop-step.invariant c.in-Some.ensures (close_step _ _ _ c.loop-step.at c.in-Some.step c.in-Some.ensures c.if-step-eq10.false (cc) ∙ rw c.escapes_next-escaped.ensures refl) c.within_literal-run.ensures.spans c.within_literal-run.ensures.left
