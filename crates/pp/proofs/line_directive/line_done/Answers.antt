use Rattle.std.proofs.Common.{◌++◌, ◌-◌, ◌<◌, take, drop, length, Some, sym, ap, subst, ◌∙◌}
use Rattle.std.proofs.lemmas.Result.{err_from_is_err_and}
use Rattle.pp_expand.specs.Expands.{HaveFiles}
use Rattle.pp.specs.Phase4.{line_made, is_line_number}
use Rattle.pp.specs.Held.{presumed_of}
use Rattle.pp.specs.inside.Stepping.{placed, Does, IsLineNumber}
use Rattle.pp.proofs.FileLemmas.{placed_files, keeps_through}
use Rattle.pp.proofs.LineLemmas.{line_stops, line_bad, line_answers, bad_tokens, bad_number, whole_list}
use Rattle.pp.proofs.line_directive.line_done.Goals as goal

pub expand_first-requires-clause-files : goal.expand_first-requires-clause-files
expand_first-requires-clause-files c =
    let p = presumed_of c.args.state.now.presumed in
    let e = c.deref.ensures.value ∙ c.in_ok-put.ensures.ok ∙ ap (λ l. l ++ placed p c.args.further.now) c.new-placed.ensures.items in
    subst (HaveFiles c.args.names.now) (sym e) (placed_files c.args.names.now p c.args.further.now c.requires.sound.has_file)

pub returns-in_err-tokens-clause-does : goal.returns-in_err-tokens-clause-does
returns-in_err-tokens-clause-does c texts keeps s a =
    let q = presumed_of c.args.state.now.presumed in
    let e = c.deref.ensures.value ∙ c.in_ok-put.ensures.ok ∙ ap (λ l. l ++ placed q c.args.further.now) c.new-placed.ensures.items in
    let p = err_from_is_err_and c.from_residual-in_err-tokens.result c.from_residual-in_err-tokens.ensures.1 in
    rw (p.1, p.2) (line_stops c.in_err-tokens.field-0.0 texts c.args.names.now c.args.state.now c.args.further.now c.deref.result.now c.args.end c.args.at s a e (c.in_err-tokens.ensures.err texts s keeps a))

pub returns-in_default-clause-does : goal.returns-in_default-clause-does
returns-in_default-clause-does c texts keeps s a =
    let q = presumed_of c.args.state.now.presumed in
    let e = c.deref.ensures.value ∙ c.in_ok-put.ensures.ok ∙ ap (λ l. l ++ placed q c.args.further.now) c.new-placed.ensures.items in
    line_bad c.bad_line.result texts c.args.names.now c.args.state.now c.expand_first.new.self c.args.further.now c.deref.result.now c.in_ok-tokens.tokens.items c.args.end c.args.at s a e c.bad_line.ensures
    (c.in_ok-tokens.ensures.ok texts s keeps a) (λ s. bad_tokens texts c.args.end c.args.at c.in_ok-tokens.tokens.items s (subst (λ l. length l < 1) c.as_slice.ensures.value c.in_default.len_below))

pub returns-in_default-line_number-clause-does : goal.returns-in_default-line_number-clause-does
returns-in_default-line_number-clause-does c texts keeps s a =
    let q = presumed_of c.args.state.now.presumed in
    let e = c.deref.ensures.value ∙ c.in_ok-put.ensures.ok ∙ ap (λ l. l ++ placed q c.args.further.now) c.new-placed.ensures.items in
    line_bad c.bad_line-in_default-line_number.result texts c.args.names.now c.args.state.now c.expand_first.new.self c.args.further.now c.deref.result.now c.in_ok-tokens.tokens.items c.args.end c.args.at s a e c.bad_line-in_default-line_number.ensures
    (c.in_ok-tokens.ensures.ok texts s keeps a)
    (λ s. bad_number texts c.args.end c.args.at c.in_ok-tokens.tokens.items (take (length c.as_slice.result.now - 1) (drop 1 c.as_slice.result.now)) c.number-item.result s
    (whole_list c.as_slice.result.now c.in_ok-tokens.tokens.items c.number-item.result c.as_slice.ensures.value c.in-len1-up.len_at_least c.number-item.is) (ap is_line_number (sym c.spelling.ensures) ∙ c.in_default-line_number.ensures))

pub returns-clause-does : goal.returns-clause-does
returns-clause-does c texts keeps s a =
    let q = presumed_of c.args.state.now.presumed in
    let e = c.deref.ensures.value ∙ c.in_ok-put.ensures.ok ∙ ap (λ l. l ++ placed q c.args.further.now) c.new-placed.ensures.items in
    let list = c.in_ok-tokens.tokens.items in
    let is = whole_list c.as_slice.result.now list c.number-item.result c.as_slice.ensures.value c.in-len1-up.len_at_least c.number-item.is in
    let before = keeps_through c.args.names.now c.renumber.new.names texts c.renumber.ensures.keeps keeps in
    line_answers c.renumber.result texts c.args.names.now c.renumber.new.names c.args.state.now c.expand_first.new.self c.renumber.new.state c.args.further.now c.deref.result.now list c.args.end c.args.at s a e
    (c.in_ok-tokens.ensures.ok texts s before a)
    (subst (λ l. Does c.renumber.result c.args.names.now c.expand_first.new.self c.renumber.new.names c.renumber.new.state (λ s. line_made texts c.args.end c.args.at (l, s))) (sym is) (c.renumber.ensures.does texts c.number-item.result keeps (subst (IsLineNumber (Some c.in-Some.line)) c.spelling.ensures c.in-Some.ensures)))
