use Rattle.std.proofs.Common.{not, sym, ap, ◌∙◌}
use Rattle.std.specs.Option.{option_copied}
use Rattle.std.proofs.lemmas.Option.{slice_get_within}
use Rattle.macros_substitution.specs.Meaning.{hidden_of}
use Rattle.pp_expand.proofs.FirstTokens.{dead, no_identifier, named_predefined, named_none, named_some, live_by, unknown_name, not_defined, defined_as, finds_as, predefined_as}
use Rattle.pp_expand.proofs.naming.named.Goals as goal

pub returns-then-not-is_identifier-clause-named : goal.returns-then-not-is_identifier-clause-named
returns-then-not-is_identifier-clause-named c = λ macros later is_table below extends.
    dead (record { macros = macros; texts = c.args.names.now }) (hidden_of c.args.names.now later c.args.x.now) (no_identifier (hidden_of c.args.names.now later c.args.x.now) (sym c.is_identifier.ensures ∙ c.if-not-is_identifier.true))

pub returns-then-has_name-clause-named : goal.returns-then-has_name-clause-named
returns-then-has_name-clause-named c = λ macros later is_table below extends.
    dead (record { macros = macros; texts = c.args.names.now }) (hidden_of c.args.names.now later c.args.x.now) (live_by c.args.names.now c.args.table.now macros is_table c.args.x.now c.args.sets.now later extends c.requires below c.find-number.ensures.once c.find-number.result c.has_name.result (finds_as c.args.names.now c.find-number.result _ _ c.spelling.ensures c.find-number.ensures.found) (sym c.is_identifier.ensures ∙ c.if-not-is_identifier.false) c.has_name.ensures ∙ ap not c.if-has_name.true)

pub returns-then-is_predefined-clause-named : goal.returns-then-is_predefined-clause-named
returns-then-is_predefined-clause-named c = λ macros later is_table below extends.
    let live = live_by c.args.names.now c.args.table.now macros is_table c.args.x.now c.args.sets.now later extends c.requires below c.find-number.ensures.once c.find-number.result c.has_name.result (finds_as c.args.names.now c.find-number.result _ _ c.spelling.ensures c.find-number.ensures.found) (sym c.is_identifier.ensures ∙ c.if-not-is_identifier.false) c.has_name.ensures ∙ ap not c.if-has_name.false in
    named_predefined (record { macros = macros; texts = c.args.names.now }) (hidden_of c.args.names.now later c.args.x.now) live (predefined_as _ _ c.spelling-2.ensures ∙ sym c.is_predefined.ensures ∙ c.if-is_predefined.true)

pub returns-in_default-clause-named : goal.returns-in_default-clause-named
returns-in_default-clause-named c = λ macros later is_table below extends.
    let found = finds_as c.args.names.now c.find-number.result _ _ c.spelling.ensures c.find-number.ensures.found in
    let live = live_by c.args.names.now c.args.table.now macros is_table c.args.x.now c.args.sets.now later extends c.requires below c.find-number.ensures.once c.find-number.result c.has_name.result found (sym c.is_identifier.ensures ∙ c.if-not-is_identifier.false) c.has_name.ensures ∙ ap not c.if-has_name.false in
    named_none (record { macros = macros; texts = c.args.names.now }) (hidden_of c.args.names.now later c.args.x.now) live (predefined_as _ _ c.spelling-2.ensures ∙ sym c.is_predefined.ensures ∙ c.if-is_predefined.false) (unknown_name c.args.names.now c.args.table.now macros is_table c.args.x.now c.args.sets.now later extends c.requires below c.find-number.ensures.once c.find-number.result c.in_default.is found)

pub returns-in-Some-get-clause-named : goal.returns-in-Some-get-clause-named
returns-in-Some-get-clause-named c = λ macros later is_table below extends.
    let found = finds_as c.args.names.now c.find-number.result _ _ c.spelling.ensures c.find-number.ensures.found in
    let live = live_by c.args.names.now c.args.table.now macros is_table c.args.x.now c.args.sets.now later extends c.requires below c.find-number.ensures.once c.find-number.result c.has_name.result found (sym c.is_identifier.ensures ∙ c.if-not-is_identifier.false) c.has_name.ensures ∙ ap not c.if-has_name.false in
    let number = (found c.in-Some.n).0 c.in-Some.is in
    let d = defined_as c.args.names.now c.args.table.now macros is_table c.args.x.now c.args.sets.now later extends c.requires below c.find-number.ensures.once c.in-Some.n c.in-Some-get.definition.now number (sym c.get.ensures ∙ ap option_copied c.in-Some-get.is) in
    (number, (d.0, (d.1.1, named_some (record { macros = macros; texts = c.args.names.now }) (hidden_of c.args.names.now later c.args.x.now) live (predefined_as _ _ c.spelling-2.ensures ∙ sym c.is_predefined.ensures ∙ c.if-is_predefined.false) d.0 d.1.0)))

pub returns-in-Some-get-clause-below : goal.returns-in-Some-get-clause-below
returns-in-Some-get-clause-below c =
    slice_get_within c.args.names.now c.in-Some.n c.spelling.result.now ((c.find-number.ensures.found c.in-Some.n).0 c.in-Some.is)

pub returns-in-None-clause-named : goal.returns-in-None-clause-named
returns-in-None-clause-named c = λ macros later is_table below extends.
    let found = finds_as c.args.names.now c.find-number.result _ _ c.spelling.ensures c.find-number.ensures.found in
    let live = live_by c.args.names.now c.args.table.now macros is_table c.args.x.now c.args.sets.now later extends c.requires below c.find-number.ensures.once c.find-number.result c.has_name.result found (sym c.is_identifier.ensures ∙ c.if-not-is_identifier.false) c.has_name.ensures ∙ ap not c.if-has_name.false in
    let number = (found c.in-Some.n).0 c.in-Some.is in
    named_none (record { macros = macros; texts = c.args.names.now }) (hidden_of c.args.names.now later c.args.x.now) live (predefined_as _ _ c.spelling-2.ensures ∙ sym c.is_predefined.ensures ∙ c.if-is_predefined.false) (not_defined c.args.names.now c.args.table.now macros is_table c.args.x.now c.args.sets.now later extends c.requires below c.find-number.ensures.once c.in-Some.n number (sym c.get.ensures ∙ ap option_copied c.in-None.is))
