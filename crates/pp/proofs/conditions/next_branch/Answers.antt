use Rattle.std.proofs.lemmas.Result.{err_from_is_err_and}
use Rattle.std.proofs.Common.{sym, subst}
use Rattle.pp.specs.declared.conditionals.BranchState.TheVariants.{Past}
use Rattle.pp.specs.Rest.{next_branch}
use Rattle.pp.specs.inside.Stepping.{line_with, Gives, StopsAs}
use Rattle.pp.proofs.ConditionLemmas.{past_stops, past_gives}
use Rattle.pp.proofs.conditions.next_branch.Goals as goal

pub returns-in_err-check_else-in-Taken-clause-asks : goal.returns-in_err-check_else-in-Taken-clause-asks
returns-in_err-check_else-in-Taken-clause-asks c around end s keeps a =
    let p = err_from_is_err_and c.from_residual-in_err-check_else-in-Taken.result c.from_residual-in_err-check_else-in-Taken.ensures.1 in
    rw (p.1, p.2) (subst (λ b. StopsAs s.given c.args.names.now c.in_err-check_else-in-Taken.field-0.0 (next_branch b around (line_with c.args.line.now end) s)) (sym c.in-Taken.is) (past_stops c.in_err-check_else-in-Taken.field-0.0 c.args.names.now (line_with c.args.line.now end) s (c.in_err-check_else-in-Taken.ensures c.args.names.now end s a)))

pub returns-in_err-check_else-in-Past-clause-asks : goal.returns-in_err-check_else-in-Past-clause-asks
returns-in_err-check_else-in-Past-clause-asks c around end s keeps a =
    let p = err_from_is_err_and c.from_residual-in_err-check_else-in-Past.result c.from_residual-in_err-check_else-in-Past.ensures.1 in
    rw (p.1, p.2) (subst (λ b. StopsAs s.given c.args.names.now c.in_err-check_else-in-Past.field-0.0 (next_branch b around (line_with c.args.line.now end) s)) (sym c.in-Past.is) (past_stops c.in_err-check_else-in-Past.field-0.0 c.args.names.now (line_with c.args.line.now end) s (c.in_err-check_else-in-Past.ensures c.args.names.now end s a)))

pub returns-in_ok-check_else-in-Taken-clause-asks : goal.returns-in_ok-check_else-in-Taken-clause-asks
returns-in_ok-check_else-in-Taken-clause-asks c around end s keeps a =
    subst (λ b. Gives Past c.args.names.now c.args.state.now (next_branch b around (line_with c.args.line.now end) s)) (sym c.in-Taken.is) (past_gives c.args.names.now c.args.state.now (line_with c.args.line.now end) s (c.in_ok-check_else-in-Taken.ensures c.args.names.now end s a))

pub returns-in_ok-check_else-in-Past-clause-asks : goal.returns-in_ok-check_else-in-Past-clause-asks
returns-in_ok-check_else-in-Past-clause-asks c around end s keeps a =
    subst (λ b. Gives Past c.args.names.now c.args.state.now (next_branch b around (line_with c.args.line.now end) s)) (sym c.in-Past.is) (past_gives c.args.names.now c.args.state.now (line_with c.args.line.now end) s (c.in_ok-check_else-in-Past.ensures c.args.names.now end s a))
