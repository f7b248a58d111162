use Rattle.std.proofs.Common.{map, ap, ◌∙◌, subst, sym, refl}
use Rattle.std.proofs.lemmas.Option.{slice_get_past, slice_get_read}
use Rattle.macros_substitution.specs.inside.Steps.{JoinsTo}
use Rattle.macros_substitution.specs.inside.Reading.{string_made, tokens_held}
use Rattle.macros_substitution.proofs.Feeds.{listed, unlisted}
use Rattle.macros_substitution.proofs.ReadingLaws.{shown_tokens}
use Rattle.macros_substitution.proofs.reading.argument_string.Goals as goal

pub returns-in_default-clause-value : goal.returns-in_default-clause-value
returns-in_default-clause-value c = λ texts sets.
    subst (λ t. JoinsTo texts sets c.args.at c.string_piece.result (string_made c.args.space_before (map (λ x. x.token) t) c.args.at))
    (unlisted texts sets c.args.index c.args.arguments.now (slice_get_past c.args.arguments.now c.args.index c.in_default.ensures.lookup.3))
    (c.string_piece.ensures.value texts sets)

pub returns-clause-value : goal.returns-clause-value
returns-clause-value c = λ texts sets.
    let same = ap tokens_held c.as_slice.ensures.value ∙ sym (shown_tokens texts sets c.in-Some.argument.now.items)
    ∙ ap (λ t. map (λ x. x.token) t) (listed texts sets c.args.index c.args.arguments.now c.in-Some.argument.now (slice_get_read c.args.arguments.now _ c.args.index c.in-Some.argument.now refl c.in-Some.ensures.lookup.3.0 c.in-Some.ensures.lookup.1)) in
    subst (λ t. JoinsTo texts sets c.args.at c.string_piece-2.result (string_made c.args.space_before t c.args.at)) same (c.string_piece-2.ensures.value texts sets)
