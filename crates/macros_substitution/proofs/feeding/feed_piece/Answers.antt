use Rattle.std.proofs.Common.{subst}
use Rattle.macros_substitution.specs.Meaning.{hidden_lists}
use Rattle.macros_substitution.specs.inside.Steps.{GoesOn}
use Rattle.macros_substitution.proofs.Feeds.{put_beside, put_elsewhere}
use Rattle.macros_substitution.proofs.feeding.feed_piece.Goals as goal

pub returns-then-beside-clause-value : goal.returns-then-beside-clause-value
returns-then-beside-clause-value c = λ texts later behind once below grown.
    subst (λ t. GoesOn texts later c.args.at c.args.joining t c.feed_argument.result behind)
    (put_beside (hidden_lists texts later c.args.arguments.now) (hidden_lists texts later c.args.full.now) texts later c.args.piece c.in-Parameter.beside c.in-Parameter.space_before c.in-Parameter.index c.in-Parameter.is (cc))
    (c.feed_argument.ensures.value texts later behind once below grown)

pub returns-else-beside-clause-value : goal.returns-else-beside-clause-value
returns-else-beside-clause-value c = λ texts later behind once below grown.
    subst (λ t. GoesOn texts later c.args.at c.args.joining t c.feed_expansion.result behind)
    (put_elsewhere (hidden_lists texts later c.args.arguments.now) (hidden_lists texts later c.args.full.now) texts later c.args.piece c.in-Parameter.beside c.in-Parameter.space_before c.in-Parameter.index c.in-Parameter.is (cc))
    (c.feed_expansion.ensures.value texts later behind once below grown)
