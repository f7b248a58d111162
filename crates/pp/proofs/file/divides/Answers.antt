use Rattle.std.proofs.Common.{sym, ap, subst, ◌∙◌}
use Rattle.std.proofs.lemmas.Result.{err_from_is_err_and}
use Rattle.pp.specs.Groups.{divides, with_line}
use Rattle.pp.specs.Rest.{rest_done}
use Rattle.pp.specs.Held.{presumed_of}
use Rattle.pp.specs.inside.Stepping.{presumed_by, line_with, StopsAs}
use Rattle.pp.proofs.BranchLemmas.{divides_alone, divides_amiss, divides_stops, divides_answers}
use Rattle.pp.proofs.file.divides.Goals as goal

pub returns-in_default-clause-rests : goal.returns-in_default-clause-rests
returns-in_default-clause-rests c around end p s keeps a =
    subst (λ r. StopsAs s.given c.args.names.now r (rest_done around c.args.conditionals.now (with_line divides (line_with c.args.line.now end) p) s)) (sym c.unbalanced.ensures)
    (divides_alone c.args.names.now c.args.state.now around c.args.conditionals.now c.args.line.now end p s c.place-at.result (a, c.place-at.ensures ∙ ap (λ p. presumed_by (presumed_of c.args.state.now.presumed) p) c.place_of.ensures) c.in_default.ensures.first)

pub returns-then-innermost-clause-rests : goal.returns-then-innermost-clause-rests
returns-then-innermost-clause-rests c around end p s keeps a =
    subst (λ r. StopsAs s.given c.args.names.now r (rest_done around c.args.conditionals.now (with_line divides (line_with c.args.line.now end) p) s)) (sym c.unbalanced-then-innermost.ensures)
    (divides_amiss c.args.names.now c.args.state.now around c.args.conditionals.now c.in-Some.innermost c.args.line.now end p s c.place-at.result (a, c.place-at.ensures ∙ ap (λ p. presumed_by (presumed_of c.args.state.now.presumed) p) c.place_of.ensures) c.requires.role c.in-Some.ensures.first c.if-innermost.true)

pub returns-in_err-branch-clause-rests : goal.returns-in_err-branch-clause-rests
returns-in_err-branch-clause-rests c around end p s keeps a =
    let q = err_from_is_err_and c.from_residual.result c.from_residual.ensures.1 in
    rw (q.1, q.2) (divides_stops c.in_err-branch.field-0.0 c.args.names.now around c.args.conditionals.now c.in-Some.innermost c.args.line.now end p s c.requires.role c.in-Some.ensures.first c.if-innermost.false (c.in_err-branch.ensures.asks around end s keeps a))

pub returns-clause-rests : goal.returns-clause-rests
returns-clause-rests c around end p s keeps a =
    divides_answers c.push.result c.args.names.now c.next_branch.new.state around c.args.conditionals.now c.pop.new.self c.push.new.self c.in-Some.innermost c.args.line.now end p s c.in_ok-branch.branch c.is_else.result
    c.requires.role c.in-Some.ensures.first c.in-Some.ensures.rest c.if-innermost.false c.is_else.ensures (c.in_ok-branch.ensures.asks around end s keeps a) c.push.ensures.ok c.push.ensures.err
