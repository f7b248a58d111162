use Rattle.std.proofs.Common.{length}
use Rattle.macros_substitution.proofs.Fronts.{are_in_more}
use Rattle.macros_substitution.proofs.Joins.{feed_left, feed_made, feed_refused, done_known}
use Rattle.macros_substitution.proofs.joining.feed.Goals as goal

pub returns-in_ok-finish_piece-in-Left-clause-value :
    goal.returns-in_ok-finish_piece-in-Left-clause-value
returns-in_ok-finish_piece-in-Left-clause-value c = λ texts later behind once below grown.
    feed_left texts later c.args.joining c.in-Left.left c.args.next c.finish_piece.new.done.items behind c.args.at c.in-Left.is (cc) c.in_ok-finish_piece-in-Left.ensures.ok

pub returns-in_ok-finish_piece-in-Left-clause-known :
    goal.returns-in_ok-finish_piece-in-Left-clause-known
returns-in_ok-finish_piece-in-Left-clause-known c = record {
  done = done_known (length c.args.sets.now) c.args.joining c.in-Left.left c.finish_piece.new.done.items c.in-Left.is c.requires.known c.in_ok-finish_piece-in-Left.ensures.ok;
  hand = c.requires.next;
}

pub returns-in-Err-clause-value : goal.returns-in-Err-clause-value
returns-in-Err-clause-value c = λ texts later behind once below grown.
    feed_refused texts later c.args.joining c.in-Joining.left c.args.next behind c.args.at c.in-Err.refusal c.in-Joining.is (c.in-Err.ensures.value texts later once below grown)

pub returns-in-Ok-clause-value : goal.returns-in-Ok-clause-value
returns-in-Ok-clause-value c = λ texts later behind once below grown.
    feed_made texts later c.args.joining c.in-Joining.left c.args.next c.in-Ok.made behind c.args.at c.in-Joining.is (c.in-Ok.ensures.value texts later once below grown)

pub returns-in-Ok-clause-known : goal.returns-in-Ok-clause-known
returns-in-Ok-clause-known c = record { done = are_in_more _ _ _ c.join_pieces.ensures.keeps.longer c.requires.known.done; hand = c.in-Ok.ensures.known }
