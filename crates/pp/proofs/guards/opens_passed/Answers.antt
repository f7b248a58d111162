use Rattle.std.proofs.Common.{sym, ◌∙◌}
use Rattle.pp.proofs.GuardLemmas.{opens_skipped, guard_opens}
use Rattle.pp.proofs.guards.opens_passed.Goals as goal

pub returns-then-not-is_active-clause-passes : goal.returns-then-not-is_active-clause-passes
returns-then-not-is_active-clause-passes c t =
    opens_skipped c.args.guard.now c.args.line.now c.args.conditionals.now c.put.new.conditionals c.requires.role (sym c.is_full.ensures ∙ c.if-is_full.false)
    (sym c.is_active.ensures ∙ c.if-not-is_active.true) (c.put.ensures t)

pub returns-clause-passes : goal.returns-clause-passes
returns-clause-passes c t =
    guard_opens c.in-Some.name c.args.line.now c.args.conditionals.now c.put-2.new.conditionals c.requires.role (sym c.is_full.ensures ∙ c.if-is_full.false)
    (sym c.is_active.ensures ∙ c.if-not-is_active.false) c.in-Some.ensures (c.put-2.ensures t)
