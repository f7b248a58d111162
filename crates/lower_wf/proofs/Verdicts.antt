-- A property that holds of the parts that are fine holds of the whole.
use Rattle.std.proofs.Common.{◌≡◌, Bool, true, false, refl, subst}
use Rattle.srcset.specs.declared.code.Code.{Code}
use Rattle.srcset.specs.declared.refusal.Pos.{Pos}
use Rattle.typing_spec.specs.Verdict.{Verdict, fine, broken, then_check, both, provided, refuse_if, each, IfFine}

pub then_any : {A B : Type 0} (Q : B → Type 0) (v : Verdict A) (go : A → Verdict B) → ((a : A) → IfFine Q (go a)) → IfFine Q (then_check v go)
then_any Q (fine a) go h = h a
then_any Q (broken vs) go h = tt

pub then_some : {A B : Type 0} (P : A → Type 0) (Q : B → Type 0) (v : Verdict A) (go : A → Verdict B) → IfFine P v → ((a : A) → P a → IfFine Q (go a)) → IfFine Q (then_check v go)
then_some P Q (fine a) go g h = h a g
then_some P Q (broken vs) go g h = tt

pub both_some : {A B C : Type 0} (P : A → Type 0) (Q : B → Type 0) (R : C → Type 0) (v : Verdict A) (w : Verdict B) (go : A → B → Verdict C) → IfFine P v → IfFine Q w → ((a : A) (b : B) → P a → Q b → IfFine R (go a b)) → IfFine R (both v w go)
both_some P Q R (fine a) w go g k h = then_some Q R w (go a) k (λ b q. h a b g q)
both_some P Q R (broken vs) w go g k h = tt

pub both_any : {A B C : Type 0} (Q : B → Type 0) (R : C → Type 0) (v : Verdict A) (w : Verdict B) (go : A → B → Verdict C) → IfFine Q w → ((a : A) (b : B) → Q b → IfFine R (go a b)) → IfFine R (both v w go)
both_any Q R (fine a) w go g h = then_some Q R w (go a) g (h a)
both_any Q R (broken vs) w go g h = tt

-- a part after a test
pub part : {A : Type 0} (P : A → Type 0) (test : Verdict (Unit {0})) (v : Verdict A) → IfFine P v → IfFine P (provided test v)
part P test v h = both_any P P test v (λ u a. fine a) h (λ u a p. p)

-- a part whose test does not refuse it
pub tested : {A : Type 0} (P : A → Type 0) (b : Bool) (code : Code) (at : Pos) (v : Verdict A) → (b ≡ false → IfFine P v) → IfFine P (provided (refuse_if b code at) v)
tested P true code at v h = tt
tested P false code at v h = part P (fine tt) v (h refl)

pub more_of : {A : Type 0} (P Q : A → Type 0) (v : Verdict A) → ((a : A) → P a → Q a) → IfFine P v → IfFine Q v
more_of P Q (fine a) f h = f a h
more_of P Q (broken vs) f h = tt

pub anything : {A : Type 0} (v : Verdict A) → IfFine (λ a. Unit {0}) v
anything (fine a) = tt
anything (broken vs) = tt

pub of_fine : {A : Type 0} (P : A → Type 0) (v : Verdict A) (a : A) → v ≡ fine a → IfFine P v → P a
of_fine P v a e h = subst (IfFine P) e h

pub is_fine : {A : Type 0} (v : Verdict A) → IfFine (λ a. v ≡ fine a) v
is_fine (fine a) = refl
is_fine (broken vs) = tt

pub each_parts : (a b : Verdict (Unit {0})) → each a b ≡ fine tt → (a ≡ fine tt) × (b ≡ fine tt)
each_parts (fine u) (fine v) e = (refl, refl)
each_parts (fine u) (broken vs) e = absurd (cc)
each_parts (broken us) b e = absurd (cc)

pub refused : (b : Bool) (code : Code) (at : Pos) → refuse_if b code at ≡ fine tt → b ≡ false
refused true code at e = absurd (cc)
refused false code at e = refl

pub both_of : {A : Type 0} (P Q : A → Type 0) (v : Verdict A) → IfFine P v → IfFine Q v → IfFine (λ a. P a × Q a) v
both_of P Q (fine a) p q = (p, q)
both_of P Q (broken vs) p q = tt

-- a property of the whole under a premise holds of each part of it
pub delayed : {A : Type 0} {H : Type 0} (P : H → A → Type 0) (v : Verdict A) → ((h : H) → IfFine (P h) v) → IfFine (λ a. (h : H) → P h a) v
delayed P (fine a) g = g
delayed P (broken vs) g = tt
