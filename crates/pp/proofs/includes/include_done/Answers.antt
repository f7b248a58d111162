use Rattle.std.proofs.Common.{Ok, Err, sym, ap, ◌∙◌}
use Rattle.std.proofs.lemmas.Result.{err_from_is_err_and}
use Rattle.pp.specs.Left.{around_with}
use Rattle.pp.specs.Held.{presumed_of}
use Rattle.pp.specs.inside.Stepping.{presumed_by}
use Rattle.pp.proofs.FileLemmas.{still_goes}
use Rattle.pp.proofs.IncludeLemmas.{line_skipped, line_includes}
use Rattle.pp.proofs.includes.include_done.Goals as goal

pub returns-then-not-is_active-clause-waits : goal.returns-then-not-is_active-clause-waits
returns-then-not-is_active-clause-waits c texts end p o keeps st =
    line_skipped c.args.names.now c.args.state.now c.args.state.now c.args.file.now.run c.args.file.now.run
    (around_with c.args.room c.args.set.now texts) c.args.file.now.conditionals c.args.line.now end p o
    c.requires.include st c.requires.ended c.requires.idle (still_goes texts c.args.names.now c.args.state.now c.args.file.now.run.begun st.text st.now c.requires.ended
    st.agrees) (sym c.is_active.ensures ∙ c.if-not-is_active.true)

pub returns-in_err-source-clause-waits : goal.returns-in_err-source-clause-waits
returns-in_err-source-clause-waits c texts end p o keeps st =
    let q = err_from_is_err_and c.from_residual.result c.from_residual.ensures.1 in
    rw (q.1, q.2) (line_includes (Err c.in_err-source.field-0.0) c.args.names.now c.included.new.names c.args.state.now c.args.state.now c.included.new.state c.args.file.now.run
    c.args.file.now c.args.set.now texts c.args.room c.args.line.now end p o c.hash-item.result c.place-at.result
    c.requires.include st (still_goes texts c.args.names.now c.args.state.now c.args.file.now.run.begun st.text st.now c.requires.ended st.agrees) (sym c.is_active.ensures ∙ c.if-not-is_active.false)
    c.in-len2-up.len_at_least c.hash-item.is (c.place-at.ensures ∙ ap (λ p. presumed_by (presumed_of c.args.state.now.presumed) p) c.pos.ensures) c.in_err-source.ensures.given
    (λ s a. c.in_err-source.ensures.includes texts s keeps a))

pub returns-clause-waits : goal.returns-clause-waits
returns-clause-waits c texts end p o keeps st =
    line_includes (Ok c.in_ok-source.source) c.args.names.now c.included.new.names c.args.state.now c.args.state.now c.included.new.state c.args.file.now.run
    c.args.file.now c.args.set.now texts c.args.room c.args.line.now end p o c.hash-item.result c.place-at.result
    c.requires.include st (still_goes texts c.args.names.now c.args.state.now c.args.file.now.run.begun st.text st.now c.requires.ended st.agrees) (sym c.is_active.ensures ∙ c.if-not-is_active.false)
    c.in-len2-up.len_at_least c.hash-item.is (c.place-at.ensures ∙ ap (λ p. presumed_by (presumed_of c.args.state.now.presumed) p) c.pos.ensures) c.in_ok-source.ensures.given
    (λ s a. c.in_ok-source.ensures.includes texts s keeps a)
