use Rattle.std.proofs.Common.{◌++◌, ap, ◌∙◌, subst, sym, length, refl}
use Rattle.std.proofs.lemmas.Option.{slice_get_past, slice_get_read}
use Rattle.macros_substitution.specs.Meaning.{hidden_all, AreIn}
use Rattle.macros_substitution.specs.Substitution.{ones, marked}
use Rattle.macros_substitution.specs.inside.Steps.{going, GoesOn}
use Rattle.macros_substitution.proofs.Feeds.{listed, unlisted, listed_known}
use Rattle.macros_substitution.proofs.feeding.feed_expansion.Goals as goal

pub returns-in_default-clause-value : goal.returns-in_default-clause-value
returns-in_default-clause-value c = λ texts later behind once below grown.
    ap (λ t. going texts later c.args.joining (ones (marked c.args.space_before t) ++ behind) c.args.at) (sym (unlisted texts later c.args.index c.args.full.now (slice_get_past c.args.full.now c.args.index c.in_default.ensures.lookup.3)))

pub feed_marked-requires-clause-tokens : goal.feed_marked-requires-clause-tokens
feed_marked-requires-clause-tokens c =
    subst (AreIn (length c.args.sets.now)) (sym c.as_slice.ensures.value) (listed_known _ c.args.index c.args.full.now c.in-Some.expansion.now (slice_get_read c.args.full.now _ c.args.index c.in-Some.expansion.now refl c.in-Some.ensures.lookup.3.0 c.in-Some.ensures.lookup.1) c.requires.full)

pub returns-clause-value : goal.returns-clause-value
returns-clause-value c = λ texts later behind once below grown.
    let same = ap (hidden_all texts later) c.as_slice.ensures.value ∙ listed texts later c.args.index c.args.full.now c.in-Some.expansion.now (slice_get_read c.args.full.now _ c.args.index c.in-Some.expansion.now refl c.in-Some.ensures.lookup.3.0 c.in-Some.ensures.lookup.1) in
    subst (λ t. GoesOn texts later c.args.at c.args.joining (ones (marked c.args.space_before t)) c.feed_marked.result behind) same (c.feed_marked.ensures.value texts later behind once below grown)
