use Rattle.std.proofs.Common.{sym, ap, ◌∙◌}
use Rattle.std.specs.Prelude.{not}
use Rattle.pp.proofs.GuardLemmas.{closes_skipped, guard_closes}
use Rattle.pp.proofs.guards.closes_passed.Goals as goal

pub returns-in-Skipped : goal.returns-in-Skipped
returns-in-Skipped c = record {
  passes = λ t guard.
      closes_skipped guard c.args.line.now c.args.conditionals.now c.pop.new.self c.in-Some.innermost c.requires.role c.in-Some.ensures.first c.in-Some.ensures.rest c.in-Skipped.is;
}

pub returns-in-Waiting : goal.returns-in-Waiting
returns-in-Waiting c = record {
  passes = λ t guard.
      guard_closes guard c.args.line.now c.args.conditionals.now c.pop.new.self c.in-Some.innermost c.requires.role c.in-Some.ensures.first c.in-Some.ensures.rest c.in-Waiting.is
      (ap not (sym c.has_more.ensures) ∙ t);
}
