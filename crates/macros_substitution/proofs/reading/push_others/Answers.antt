use Rattle.std.proofs.Common.{◌+◌, ◌++◌, drop, ap, ◌∙◌, sym, refl, append_assoc}
use Rattle.macros.specs.Operators.{shown_behind, shown_next}
use Rattle.macros_substitution.specs.inside.Reading.{tokens_held}
use Rattle.macros_substitution.proofs.Feeds.{drop_first}
use Rattle.macros_substitution.proofs.reading.push_others.Goals as goal

pub loop-token-preserved : goal.loop-token-preserved
loop-token-preserved c =
    let first = drop_first c.args.others.now c.loop-token.token-index c.token-item.result c.token-item.result c.loop-token-test.true c.token-item.is refl in
    let behind = shown_behind (tokens_held (drop (c.loop-token.token-index + 1) c.args.others.now)) in
    ap (λ t. t ++ behind) c.in_ok-push_shown_next.ensures
    ∙ append_assoc c.loop-token.text.items (shown_next c.token-item.result.token) behind
    ∙ ap (λ t. c.loop-token.text.items ++ shown_behind (tokens_held t)) (sym first)
    ∙ c.loop-token.invariant
