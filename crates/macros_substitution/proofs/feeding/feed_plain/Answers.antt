use Rattle.std.proofs.Common.{subst}
use Rattle.macros_substitution.specs.inside.Steps.{GoesOn}
use Rattle.macros_substitution.proofs.Feeds.{plain_marked}
use Rattle.macros_substitution.proofs.feeding.feed_plain.Goals as goal

pub returns-clause-value : goal.returns-clause-value
returns-clause-value c = λ texts later behind once below grown.
    subst (λ t. GoesOn texts later c.args.at c.args.joining t c.feed_marked.result behind) (plain_marked texts later c.args.space_before c.args.tokens.now (cc))
    (c.feed_marked.ensures.value texts later behind once below grown)
