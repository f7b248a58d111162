use Rattle.std.proofs.Common.{ap, ◌∙◌, subst, sym, length, refl}
use Rattle.std.proofs.lemmas.Option.{slice_get_past, slice_get_read}
use Rattle.macros_substitution.specs.Meaning.{hidden_all, AreIn}
use Rattle.macros_substitution.specs.Substitution.{plain}
use Rattle.macros_substitution.specs.inside.Steps.{GoesOn}
use Rattle.macros_substitution.proofs.Feeds.{listed, unlisted, listed_known}
use Rattle.macros_substitution.proofs.feeding.feed_argument.Goals as goal

pub returns-in_default-clause-value : goal.returns-in_default-clause-value
returns-in_default-clause-value c = λ texts later behind once below grown.
    subst (λ t. GoesOn texts later c.args.at c.args.joining (plain c.args.space_before t) c.feed.result behind) (unlisted texts later c.args.index c.args.arguments.now (slice_get_past c.args.arguments.now c.args.index c.in_default.ensures.lookup.3))
    (c.feed.ensures.value texts later behind once below grown)

pub feed_plain-requires-clause-tokens : goal.feed_plain-requires-clause-tokens
feed_plain-requires-clause-tokens c =
    subst (AreIn (length c.args.sets.now)) (sym c.as_slice.ensures.value) (listed_known _ c.args.index c.args.arguments.now c.in-Some.argument.now (slice_get_read c.args.arguments.now _ c.args.index c.in-Some.argument.now refl c.in-Some.ensures.lookup.3.0 c.in-Some.ensures.lookup.1) c.requires.arguments)

pub returns-clause-value : goal.returns-clause-value
returns-clause-value c = λ texts later behind once below grown.
    let same = ap (hidden_all texts later) c.as_slice.ensures.value ∙ listed texts later c.args.index c.args.arguments.now c.in-Some.argument.now (slice_get_read c.args.arguments.now _ c.args.index c.in-Some.argument.now refl c.in-Some.ensures.lookup.3.0 c.in-Some.ensures.lookup.1) in
    subst (λ t. GoesOn texts later c.args.at c.args.joining (plain c.args.space_before t) c.feed_plain.result behind) same (c.feed_plain.ensures.value texts later behind once below grown)
