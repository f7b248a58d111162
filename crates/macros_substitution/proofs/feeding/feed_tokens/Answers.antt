use Rattle.std.proofs.Common.{◌+◌, ◌++◌, drop, length, subst, ap, ◌∙◌}
use Rattle.macros_substitution.specs.declared.piece.Piece.TheVariants.{One}
use Rattle.macros_substitution.specs.Meaning.{hidden_all, piece_as, AreIn}
use Rattle.macros_substitution.specs.Substitution.{ones}
use Rattle.macros_substitution.specs.inside.Steps.{going}
use Rattle.macros_substitution.proofs.Tables.{extends_both}
use Rattle.macros_substitution.proofs.Fronts.{are_in_more}
use Rattle.macros_substitution.proofs.Feeds.{drop_first, refused_on}
use Rattle.macros_substitution.proofs.feeding.feed_tokens.Goals as goal

pub returns-in-Err-clause-value : goal.returns-in-Err-clause-value
returns-in-Err-clause-value c = λ texts later behind once below grown.
    let inv = c.loop-token.invariant in
    let first = drop_first c.args.tokens.now c.loop-token.token-index c.token-item.result c.in_ok-copy.copy c.loop-token-test.true c.token-item.is c.in_ok-copy.ensures in
    let others = ones (hidden_all texts later (drop (c.loop-token.token-index + 1) c.args.tokens.now)) in
    refused_on texts later c.args.at c.args.joining c.loop-token.joining _ (piece_as texts later (One c.in_ok-copy.copy)) others behind c.in-Err.refusal
    (inv.same texts later behind once below (extends_both _ _ _ c.feed.ensures.keeps grown)
    ∙ ap (λ t. going texts later c.loop-token.joining (ones (hidden_all texts later t) ++ behind) c.args.at) first)
    (c.in-Err.ensures.value texts later (others ++ behind) once (inv.names (length texts) below) grown)

pub returns-in-Err-clause-names : goal.returns-in-Err-clause-names
returns-in-Err-clause-names c = λ count below. c.feed.ensures.names count (c.loop-token.invariant.names count below)

pub loop-token-preserved : goal.loop-token-preserved
loop-token-preserved c =
    let inv = c.loop-token.invariant in
    let first = drop_first c.args.tokens.now c.loop-token.token-index c.token-item.result c.in_ok-copy.copy c.loop-token-test.true c.token-item.is c.in_ok-copy.ensures in
    let tokens = subst (AreIn (length c.loop-token.sets)) first inv.tokens in
    record {
      known = c.in-Ok.ensures.known;
      tokens = are_in_more _ _ _ c.feed.ensures.keeps.longer tokens.1;
      grown = extends_both _ _ _ inv.grown c.feed.ensures.keeps;
      names = λ count below. c.feed.ensures.names count (inv.names count below);
      same = λ texts later behind once below grown.
          inv.same texts later behind once below (extends_both _ _ _ c.feed.ensures.keeps grown)
          ∙ ap (λ t. going texts later c.loop-token.joining (ones (hidden_all texts later t) ++ behind) c.args.at) first
          ∙ c.in-Ok.ensures.value texts later (ones (hidden_all texts later (drop (c.loop-token.token-index + 1) c.args.tokens.now)) ++ behind) once (inv.names (length texts) below) grown;
    }
