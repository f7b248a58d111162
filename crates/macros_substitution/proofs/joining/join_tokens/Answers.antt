use Rattle.std.proofs.Common.{ap, ◌∙◌, Ok}
use Rattle.macros_substitution.specs.Substitution.{◌>>=◌, one, common}
use Rattle.macros_substitution.specs.HideSets.{members, spelled}
use Rattle.macros_substitution.proofs.Names.{common_later}
use Rattle.macros_substitution.proofs.joining.join_tokens.Goals as goal

pub returns-clause-value : goal.returns-clause-value
returns-clause-value c = λ texts later once below grown.
    let hides = common (spelled texts (members later c.args.left.hides)) (spelled texts (members later c.args.right.hides)) in
    ap (λ r. r >>= λ t. Ok (one (record { token = t; hides = hides }))) c.in_ok-token.ensures.ok
    ∙ ap (λ h. Ok (one (record { token = c.in_ok-token.token; hides = h })))
    (common_later texts c.args.sets.now c.common.new.self later _ _ _ once below c.common.ensures.keeps grown c.requires.left c.requires.right c.in_ok-hides.ensures.ok.0 c.in_ok-hides.ensures.ok.1)
