use Rattle.std.proofs.Common.{sym, ◌∙◌}
use Rattle.pp.proofs.GuardLemmas.{text_empty, text_skipped}
use Rattle.pp.proofs.guards.text_passed.Goals as goal

pub returns-then-is_active : goal.returns-then-is_active
returns-then-is_active c = record {
  passes = λ t guard. text_empty guard c.args.line.now c.args.conditionals.now (sym c.is_blank.ensures ∙ t) (sym c.is_active.ensures ∙ c.if-is_active.true);
}

pub returns : goal.returns
returns c = record {
  passes = λ t guard. text_skipped guard c.args.line.now c.args.conditionals.now c.requires.role (sym c.is_active.ensures ∙ c.if-is_active.false);
}
