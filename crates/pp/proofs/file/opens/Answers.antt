use Rattle.std.proofs.Common.{sym, ap, ◌∙◌}
use Rattle.std.proofs.lemmas.Result.{err_from_is_err_and}
use Rattle.pp.specs.Held.{presumed_of}
use Rattle.pp.specs.inside.Stepping.{presumed_by}
use Rattle.pp.proofs.BranchLemmas.{opens_full, opens_stops, opens_answers}
use Rattle.pp.proofs.file.opens.Goals as goal

pub returns-then-is_full-clause-rests : goal.returns-then-is_full-clause-rests
returns-then-is_full-clause-rests c around end p s keeps a =
    opens_full c.args.names.now c.args.state.now around c.args.conditionals.now c.args.line.now end p s c.place-at.result (a, c.place-at.ensures ∙ ap (λ p. presumed_by (presumed_of c.args.state.now.presumed) p) c.place_of.ensures) (sym c.is_full.ensures ∙ c.if-is_full.true)

pub returns-in_err-branch-clause-rests : goal.returns-in_err-branch-clause-rests
returns-in_err-branch-clause-rests c around end p s keeps a =
    let q = err_from_is_err_and c.from_residual.result c.from_residual.ensures.1 in
    rw (q.1, q.2) (opens_stops c.in_err-branch.field-0.0 c.args.names.now c.args.state.now around c.args.conditionals.now c.args.line.now end p s c.place-at.result c.opening.result (a, c.place-at.ensures ∙ ap (λ p. presumed_by (presumed_of c.args.state.now.presumed) p) c.place_of.ensures)
    (sym c.is_full.ensures ∙ c.if-is_full.false) c.opening.ensures (c.in_err-branch.ensures.asks around end s keeps a))

pub returns-clause-rests : goal.returns-clause-rests
returns-clause-rests c around end p s keeps a =
    opens_answers c.push.result c.args.names.now c.args.state.now c.next_branch.new.state around c.args.conditionals.now c.push.new.self c.args.line.now end p s c.place-at.result c.in_ok-branch.branch c.opening.result c.is_else.result (a, c.place-at.ensures ∙ ap (λ p. presumed_by (presumed_of c.args.state.now.presumed) p) c.place_of.ensures)
    (sym c.is_full.ensures ∙ c.if-is_full.false) c.opening.ensures c.is_else.ensures (c.in_ok-branch.ensures.asks around end s keeps a) c.push.ensures.ok c.push.ensures.err
