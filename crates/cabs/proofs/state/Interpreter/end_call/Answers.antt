use Rattle.std.proofs.Common.{◌≡◌, ◌∷◌, true, List, sym, ap, ◌∙◌, subst}
use Rattle.csem.specs.History.{Entry, Left}
use Rattle.interp_store.specs.layer.Views.{found_of, kept_of}
use Rattle.interp_transitions.specs.Tallied.{Tells}
use Rattle.cabs.specs.inside.Standing.{history_left, left_where, result_left, is_flow, is_return}
use Rattle.cabs.proofs.state.Interpreter.end_call.Goals as goal

pub returns-then-is_call-clause-tells : goal.returns-then-is_call-clause-tells
returns-then-is_call-clause-tells g c = λ p h t.
    let f = kept_of c.args.kept.now in
    let x = found_of c.args.found.now in
    let flow : is_flow x ≡ true = sym c.is_flow.ensures ∙ c.if-is_flow.true in
    let back : is_return f ≡ true = sym c.is_call.ensures ∙ c.if-is_call.true in
    let ends : history_left f x h ≡ Left (result_left f x) ∷ h = ap (λ b. left_where b (is_return f) (result_left f x) h) flow ∙ ap (λ b. left_where true b (result_left f x) h) back in
    subst (λ (later : List Entry). Tells p later c.end.new.self) (sym ends) (c.end.ensures p h (result_left f x) t)
