use Rattle.std.proofs.Common.{sym, ap, ◌∙◌}
use Rattle.pp.specs.inside.Stepping.{role_meant}
use Rattle.pp.proofs.GuardLemmas.{alone_passed, not_true}
use Rattle.pp.proofs.guards.line_passed.Goals as goal

pub returns-in-StandsAlone-clause-passes : goal.returns-in-StandsAlone-clause-passes
returns-in-StandsAlone-clause-passes c t =
    alone_passed c.args.guard.now c.args.line.now c.args.conditionals.now (sym c.in-Some.ensures ∙ ap role_meant c.in-StandsAlone.is) (sym c.is_active.ensures ∙ not_true c.is_active.result t)
