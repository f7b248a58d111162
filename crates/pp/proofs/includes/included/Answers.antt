use Rattle.std.proofs.Common.{◌++◌, ◌-◌, take, drop, length, refl, sym, ap, subst, ◌∙◌}
use Rattle.std.proofs.lemmas.Result.{err_from_is_err_and}
use Rattle.pp_expand.specs.Expands.{HaveFiles}
use Rattle.pp.specs.Phase4.{entered, include_done, include_made, is_header_kind, presume}
use Rattle.pp.specs.inside.Including.{IncludesOrStops}
use Rattle.pp.specs.Held.{presumed_of}
use Rattle.pp.specs.inside.Stepping.{placed, StopsAs}
use Rattle.pp.proofs.FileLemmas.{placed_files, keeps_through}
use Rattle.pp.proofs.IncludeLemmas.{done_none, done_header, made_stops, made_includes, none_left}
use Rattle.pp.proofs.LineLemmas.{whole_list}
use Rattle.pp.proofs.StateLemmas.{on_ok, still_sound}
use Rattle.pp.proofs.includes.included.Goals as goal

pub returns-in_default-clause-includes : goal.returns-in_default-clause-includes
returns-in_default-clause-includes c texts s keeps a =
    subst (λ r. StopsAs s.given c.args.names.now r (include_done texts (entered c.args.room c.args.set.now texts) c.args.at (presume s c.args.further.now) s)) (sym c.bad_directive.ensures)
    (done_none texts (entered c.args.room c.args.set.now texts) c.args.at c.args.further.now s (none_left c.args.further.now c.in_default.len_below))

pub returns-then-is_header_kind-clause-includes : goal.returns-then-is_header_kind-clause-includes
returns-then-is_header_kind-clause-includes c texts s keeps a =
    let e = whole_list c.args.further.now c.args.further.now c.first-item.result refl c.in-len1-up.len_at_least c.first-item.is in
    subst (IncludesOrStops s.given c.header_named.result c.header_named.new.names c.args.state.now c.args.set.now texts c.args.room)
    (sym (done_header texts (entered c.args.room c.args.set.now texts) c.args.at c.args.further.now (take (length c.args.further.now - 1) (drop 1 c.args.further.now)) c.first-item.result s e
    (ap is_header_kind (sym c.kind.ensures) ∙ sym c.is_header_kind.ensures ∙ c.if-is_header_kind.true)))
    (c.header_named.ensures.includes texts s keeps a)

pub returns-then-is_header_kind-clause-sound : goal.returns-then-is_header_kind-clause-sound
returns-then-is_header_kind-clause-sound c =
    on_ok c.header_named.result (still_sound c.args.names.now c.header_named.new.names c.args.state.now c.args.state.now c.header_named.ensures.keeps c.requires.sound refl refl)

pub expand_first-requires-clause-files : goal.expand_first-requires-clause-files
expand_first-requires-clause-files c =
    let p = presumed_of c.args.state.now.presumed in
    let e = c.deref.ensures.value ∙ c.in_ok-put.ensures.ok ∙ ap (λ l. l ++ placed p c.args.further.now) c.new-placed.ensures.items in
    subst (HaveFiles c.args.names.now) (sym e) (placed_files c.args.names.now p c.args.further.now c.requires.sound.has_file)

pub returns-in_err-tokens-clause-includes : goal.returns-in_err-tokens-clause-includes
returns-in_err-tokens-clause-includes c texts s keeps a =
    let q = presumed_of c.args.state.now.presumed in
    let t = c.deref.ensures.value ∙ c.in_ok-put.ensures.ok ∙ ap (λ l. l ++ placed q c.args.further.now) c.new-placed.ensures.items in
    let e = whole_list c.args.further.now c.args.further.now c.first-item.result refl c.in-len1-up.len_at_least c.first-item.is in
    let p = err_from_is_err_and c.from_residual-in_err-tokens.result c.from_residual-in_err-tokens.ensures.1 in
    rw (p.1, p.2) (made_stops c.in_err-tokens.field-0.0 texts c.args.names.now c.args.names.now (entered c.args.room c.args.set.now texts) c.args.at c.args.state.now c.args.further.now c.deref.result.now
    (take (length c.args.further.now - 1) (drop 1 c.args.further.now)) c.first-item.result s a t e (ap is_header_kind (sym c.kind.ensures) ∙ sym c.is_header_kind.ensures ∙ c.if-is_header_kind.false)
    (c.in_err-tokens.ensures.err texts s keeps a))

pub returns-clause-includes : goal.returns-clause-includes
returns-clause-includes c texts s keeps a =
    let q = presumed_of c.args.state.now.presumed in
    let t = c.deref.ensures.value ∙ c.in_ok-put.ensures.ok ∙ ap (λ l. l ++ placed q c.args.further.now) c.new-placed.ensures.items in
    let e = whole_list c.args.further.now c.args.further.now c.first-item.result refl c.in-len1-up.len_at_least c.first-item.is in
    let before = keeps_through c.args.names.now c.string_named.new.names texts c.string_named.ensures.keeps keeps in
    let g = c.in_ok-tokens.ensures.ok texts s before a in
    let enter = entered c.args.room c.args.set.now texts in
    made_includes c.string_named.result texts c.args.names.now c.string_named.new.names enter c.args.at c.args.state.now c.expand_first.new.self c.args.set.now c.args.room c.args.further.now c.deref.result.now
    (take (length c.args.further.now - 1) (drop 1 c.args.further.now)) c.in_ok-tokens.tokens.items c.first-item.result s a t e (ap is_header_kind (sym c.kind.ensures) ∙ sym c.is_header_kind.ensures ∙ c.if-is_header_kind.false) g
    (subst (λ l. IncludesOrStops g.gives.after.given c.string_named.result c.string_named.new.names c.expand_first.new.self c.args.set.now texts c.args.room (include_made enter c.args.at (l, g.gives.after))) c.deref-2.ensures.value
    (c.string_named.ensures.includes texts g.gives.after keeps g.gives.agrees))

pub returns-clause-sound : goal.returns-clause-sound
returns-clause-sound c =
    on_ok c.string_named.result (still_sound c.args.names.now c.string_named.new.names c.expand_first.new.self c.expand_first.new.self c.string_named.ensures.keeps c.in_ok-tokens.ensures.sound refl refl)
