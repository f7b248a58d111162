use Rattle.std.proofs.Common.{◌++◌, length, subst, ap, ◌∙◌, arith}
use Rattle.macros_substitution.specs.Meaning.{hidden_lists, pieces_as, piece_as, PiecesIn}
use Rattle.macros_substitution.specs.inside.Steps.{going, put_of, all_put}
use Rattle.macros_substitution.proofs.Tables.{extends_both}
use Rattle.macros_substitution.proofs.Feeds.{put_first, refused_in, pieces_more, lists_more, empty_list}
use Rattle.macros_substitution.proofs.feeding.feed_all.Goals as goal

pub returns-in-Err-clause-value : goal.returns-in-Err-clause-value
returns-in-Err-clause-value c = λ texts later behind once below grown.
    let inv = c.loop-piece.invariant in
    let arguments = hidden_lists texts later c.args.arguments.now in
    let full = hidden_lists texts later c.args.full.now in
    let others = all_put arguments full (pieces_as texts later c.pop_front.new.self.items) in
    refused_in texts later c.args.at c.args.joining c.loop-piece.joining _ (put_of arguments full (piece_as texts later c.in-Some.piece)) others behind c.in-Err.refusal
    (inv.same texts later behind once below (extends_both _ _ _ c.feed_piece.ensures.keeps grown)
    ∙ ap (λ t. going texts later c.loop-piece.joining t c.args.at) (put_first texts later arguments full c.loop-piece.rest.items c.in-Some.piece c.pop_front.new.self.items behind c.in-Some.ensures.items))
    (c.in-Err.ensures.value texts later (others ++ behind) once (inv.names (length texts) below) grown)

pub returns-in-Err-clause-names : goal.returns-in-Err-clause-names
returns-in-Err-clause-names c = λ count below. c.feed_piece.ensures.names count (c.loop-piece.invariant.names count below)

pub loop-piece-preserved : goal.loop-piece-preserved
loop-piece-preserved c =
    let inv = c.loop-piece.invariant in
    let pieces = subst (PiecesIn (length c.loop-piece.sets)) c.in-Some.ensures.items inv.pieces in
    let more = c.feed_piece.ensures.keeps.longer in
    record {
      known = c.in-Ok.ensures.known;
      pieces = pieces_more _ _ _ more pieces.1;
      arguments = lists_more _ _ _ more inv.arguments;
      full = lists_more _ _ _ more inv.full;
      grown = extends_both _ _ _ inv.grown c.feed_piece.ensures.keeps;
      names = λ count below. c.feed_piece.ensures.names count (inv.names count below);
      same = λ texts later behind once below grown.
          let arguments = hidden_lists texts later c.args.arguments.now in
          let full = hidden_lists texts later c.args.full.now in
          let others = all_put arguments full (pieces_as texts later c.pop_front.new.self.items) in
          inv.same texts later behind once below (extends_both _ _ _ c.feed_piece.ensures.keeps grown)
          ∙ ap (λ t. going texts later c.loop-piece.joining t c.args.at) (put_first texts later arguments full c.loop-piece.rest.items c.in-Some.piece c.pop_front.new.self.items behind c.in-Some.ensures.items)
          ∙ c.in-Ok.ensures.value texts later (others ++ behind) once (inv.names (length texts) below) grown;
    }

pub returns-clause-value : goal.returns-clause-value
returns-clause-value c = λ texts later behind once below grown.
    let arguments = hidden_lists texts later c.args.arguments.now in
    let full = hidden_lists texts later c.args.full.now in
    c.loop-piece.invariant.same texts later behind once below grown
    ∙ ap (λ t. going texts later c.loop-piece.joining (all_put arguments full (pieces_as texts later t) ++ behind) c.args.at) (empty_list c.loop-piece.rest.items (omega (arith, c.in_default.ensures.cases.0)))
