use Rattle.std.proofs.Common.{◌∷◌, ◌++◌, [], length, subst, ap, sym}
use Rattle.macros_substitution.specs.declared.piece.Piece.TheVariants.{One}
use Rattle.macros_substitution.specs.Meaning.{hidden_all, piece_as, AreIn}
use Rattle.macros_substitution.specs.Substitution.{ones}
use Rattle.macros_substitution.specs.inside.Steps.{going, GoesOn}
use Rattle.macros_substitution.proofs.Tables.{extends_both}
use Rattle.macros_substitution.proofs.Fronts.{are_in_more}
use Rattle.macros_substitution.proofs.Feeds.{first_marked, refused_on, goes_from}
use Rattle.macros_substitution.proofs.feeding.feed_marked.Goals as goal

pub returns-in-Err-clause-value : goal.returns-in-Err-clause-value
returns-in-Err-clause-value c = λ texts later behind once below grown.
    let first = first_marked texts later c.args.space_before c.args.tokens.now c.in-Some.first.now c.in_ok-copy.copy c.in-Some.others.now c.in-Some.ensures.cases.0 c.in_ok-copy.ensures in
    let others = ones (hidden_all texts later c.in-Some.others.now) in
    refused_on texts later c.args.at c.args.joining c.args.joining _ (piece_as texts later (One c.in_ok-copy.copy)) others behind c.in-Err.refusal
    (ap (λ t. going texts later c.args.joining (t ++ behind) c.args.at) first)
    (c.in-Err.ensures.value texts later (others ++ behind) once below grown)

pub feed_tokens-requires-clause-tokens : goal.feed_tokens-requires-clause-tokens
feed_tokens-requires-clause-tokens c =
    let tokens = subst (AreIn (length c.args.sets.now)) c.in-Some.ensures.cases.0 c.requires.tokens in
    are_in_more _ _ _ c.feed.ensures.keeps.longer tokens.1

pub returns-clause-value : goal.returns-clause-value
returns-clause-value c = λ texts later behind once below grown.
    let first = first_marked texts later c.args.space_before c.args.tokens.now c.in-Some.first.now c.in_ok-copy.copy c.in-Some.others.now c.in-Some.ensures.cases.0 c.in_ok-copy.ensures in
    let others = ones (hidden_all texts later c.in-Some.others.now) in
    subst (λ t. GoesOn texts later c.args.at c.args.joining t c.feed_tokens.result behind) (sym first)
    (goes_from texts later c.args.at c.args.joining c.in-Ok.fed (piece_as texts later (One c.in_ok-copy.copy) ∷ []) others c.feed_tokens.result behind
    (c.in-Ok.ensures.value texts later (others ++ behind) once below (extends_both _ _ _ c.feed_tokens.ensures.keeps grown))
    (c.feed_tokens.ensures.value texts later behind once (c.feed.ensures.names (length texts) below) grown))

pub returns-clause-names : goal.returns-clause-names
returns-clause-names c = λ count below. c.feed_tokens.ensures.names count (c.feed.ensures.names count below)
