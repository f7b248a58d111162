-- The verdicts of the parts determine that of the whole.
use Rattle.std.specs.Prelude.{Result, IfErr}
use Rattle.std.specs.Result.{IsErrAnd}
use Rattle.std.proofs.lemmas.Result.{err_from_is_err_and}
use Rattle.std.proofs.Common.{◌≡◌, ap, ◌∙◌, inl, inr, sym, subst}
use Rattle.srcset.specs.declared.refusal.Refusal.{Refusal}
use Rattle.srcset.specs.declared.refusal.Refusal.TheVariants.{Memory, At, Told}
use Rattle.typing_spec.specs.Verdict.{Verdict, fine, broken, each, both, then_check}
use Rattle.typing_expressions.specs.Refused.{IsOf, Tells}

pub each_left : (r : Refusal) (a b : Verdict (Unit {0})) → IsOf r a → IsOf r (each a b)
each_left Memory a b h = absurd h
each_left (At code at) (fine u) b h = absurd h
each_left (At code at) (broken vs) b h = inl h
each_left (Told code at text) a b h = absurd h

pub each_right : (r : Refusal) (a b : Verdict (Unit {0})) → IsOf r b → IsOf r (each a b)
each_right Memory a b h = absurd h
each_right (At code at) a (fine u) h = absurd h
each_right (At code at) (fine u) (broken vs) h = h
each_right (At code at) (broken us) (broken vs) h = inr h
each_right (Told code at text) a b h = absurd h

pub each_fine : (a b : Verdict (Unit {0})) → a ≡ fine tt → b ≡ fine tt → each a b ≡ fine tt
each_fine a b ea eb = ap (λ v. each v b) ea ∙ ap (λ v. each (fine tt) v) eb

-- a part that is broken, and one that is read
pub then_left : {A B : Type 0} (r : Refusal) (v : Verdict A) (go : A → Verdict B) → IsOf r v → IsOf r (then_check v go)
then_left Memory v go h = absurd h
then_left (At code at) (fine a) go h = absurd h
then_left (At code at) (broken vs) go h = h
then_left (Told code at text) v go h = absurd h

pub then_right : {A B : Type 0} (r : Refusal) (v : Verdict A) (a : A) (go : A → Verdict B) → v ≡ fine a → IsOf r (go a) → IsOf r (then_check v go)
then_right r v a go e h = subst (λ v. IsOf r (then_check v go)) (sym e) h

-- the exit of a `?`
pub err_passed_on : {T F : Type 0} (Q : F → Type 0) (r : Result T F) (f : F) → IsErrAnd r (λ e. e ≡ f) → Q f → IfErr r (λ e. Q e)
err_passed_on Q r f is h = let p = err_from_is_err_and r is in rw (p.1, p.2) h

-- the same where memory may run out
pub tells_left : {A B C : Type 0} (r : Refusal) (a : Verdict A) (b : Verdict B) (go : A → B → Verdict C) → Tells r a → Tells r (both a b go)
tells_left Memory a b go h = tt
tells_left (At code at) (fine x) b go h = absurd h
tells_left (At code at) (broken vs) b go h = inl h
tells_left (Told code at text) a b go h = absurd h

pub tells_right : {A B C : Type 0} (r : Refusal) (a : Verdict A) (b : Verdict B) (go : A → B → Verdict C) → Tells r b → Tells r (both a b go)
tells_right Memory a b go h = tt
tells_right (At code at) a (fine y) go h = absurd h
tells_right (At code at) (fine x) (broken vs) go h = h
tells_right (At code at) (broken us) (broken vs) go h = inr h
tells_right (Told code at text) a b go h = absurd h

pub tells_then : {A B : Type 0} (r : Refusal) (v : Verdict A) (go : A → Verdict B) → Tells r v → Tells r (then_check v go)
tells_then Memory v go h = tt
tells_then (At code at) (fine a) go h = absurd h
tells_then (At code at) (broken vs) go h = h
tells_then (Told code at text) v go h = absurd h

-- a fault that applies may be reported
pub tells_of : {A : Type 0} (r : Refusal) (v : Verdict A) → IsOf r v → Tells r v
tells_of Memory v h = tt
tells_of (At code at) v h = h
tells_of (Told code at text) v h = h
