use Rattle.std.proofs.Common.{[], subst, refl, Err, Ok}
use Rattle.macros_substitution.specs.declared.joining.Joining.{Joining}
use Rattle.macros_substitution.specs.declared.joining.Hand.TheVariants.{Nothing}
use Rattle.macros_substitution.specs.Meaning.{hidden_lists, pieces_as}
use Rattle.macros_substitution.specs.inside.Steps.{GoesOn}
use Rattle.macros_substitution.proofs.Feeds.{gives_refusal, gives_tokens, puts_same}
use Rattle.macros_substitution.proofs.substituting.substitute_joining.Goals as goal

pub returns-in-Err-clause-value : goal.returns-in-Err-clause-value
returns-in-Err-clause-value c = λ texts later call once below grown e beside.
    let start : Joining = record { done = c.new.result; hand = Nothing } in
    gives_refusal texts later c.args.at start call (hidden_lists texts later c.args.arguments.items) (hidden_lists texts later c.args.full.items) (pieces_as texts later c.args.pieces.items) c.in-Err.refusal
    c.new.ensures.items refl e beside
    (subst (λ t. GoesOn texts later c.args.at start t (Err c.in-Err.refusal) [])
    (puts_same texts later _ _ _ _ _ _ c.as_slice.ensures.value c.as_slice-2.ensures.value c.from-pieces.ensures.0)
    (c.in-Err.ensures.value texts later [] once below grown))

pub returns-clause-value : goal.returns-clause-value
returns-clause-value c = λ texts later call once below grown e beside.
    let start : Joining = record { done = c.new.result; hand = Nothing } in
    gives_tokens texts later c.args.at start c.in-Ok.fed call (hidden_lists texts later c.args.arguments.items) (hidden_lists texts later c.args.full.items) (pieces_as texts later c.args.pieces.items) c.finish.result
    c.new.ensures.items refl e beside
    (subst (λ t. GoesOn texts later c.args.at start t (Ok c.in-Ok.fed) [])
    (puts_same texts later _ _ _ _ _ _ c.as_slice.ensures.value c.as_slice-2.ensures.value c.from-pieces.ensures.0)
    (c.in-Ok.ensures.value texts later [] once below grown))
    c.finish.ensures.value c.finish.ensures.err
