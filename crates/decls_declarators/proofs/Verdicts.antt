-- The verdict on the whole, by the verdicts on parts.
use Rattle.std.proofs.Common.{◌≡◌, ℕ, ◌+◌, ◌<◌, List, ◌∷◌, drop, get_or, length, ap, ◌∙◌, subst, sym}
use Rattle.std.proofs.lemmas.List.{drop_more}
use Rattle.srcset.specs.declared.refusal.Refusal.{Refusal}
use Rattle.srcset.specs.declared.refusal.Refusal.TheVariants.{Memory}
use Rattle.typing_spec.specs.Verdict.{Verdict, fine, both, then_check, provided}
use Rattle.typing_expressions.specs.Refused.{Tells}
use Rattle.typing_expressions.proofs.Verdicts.{tells_left, tells_right}

pub told : {A : Type 0} (r : Refusal) (v : Verdict A) → r ≡ Memory → Tells r v
told r v e = subst (λ k. Tells k v) (sym e) tt

pub then_fine : {A B : Type 0} (v : Verdict A) (a : A) (go : A → Verdict B) → v ≡ fine a → then_check v go ≡ go a
then_fine v a go e = ap (λ w. then_check w go) e

pub then_tells : {A B : Type 0} (r : Refusal) (v : Verdict A) (a : A) (go : A → Verdict B) → v ≡ fine a → Tells r (go a) → Tells r (then_check v go)
then_tells r v a go e h = subst (λ w. Tells r w) (sym (then_fine v a go e)) h

pub both_fine : {A B C : Type 0} (v : Verdict A) (w : Verdict B) (a : A) (b : B) (go : A → B → Verdict C) → v ≡ fine a → w ≡ fine b → both v w go ≡ go a b
both_fine v w a b go e f = ap (λ x. both x w go) e ∙ ap (λ x. then_check x (go a)) f

pub both_tells : {A B C : Type 0} (r : Refusal) (v : Verdict A) (w : Verdict B) (a : A) (b : B) (go : A → B → Verdict C) → v ≡ fine a → w ≡ fine b → Tells r (go a b) → Tells r (both v w go)
both_tells r v w a b go e f h = subst (λ x. Tells r x) (sym (both_fine v w a b go e f)) h

pub provided_fine : {A : Type 0} (test : Verdict (Unit {0})) (part : Verdict A) (a : A) → test ≡ fine tt → part ≡ fine a → provided test part ≡ fine a
provided_fine test part a e f = both_fine test part tt a (λ u x. fine x) e f

pub provided_left : {A : Type 0} (r : Refusal) (test : Verdict (Unit {0})) (part : Verdict A) → Tells r test → Tells r (provided test part)
provided_left r test part h = tells_left r test part (λ u x. fine x) h

pub provided_right : {A : Type 0} (r : Refusal) (test : Verdict (Unit {0})) (part : Verdict A) → Tells r part → Tells r (provided test part)
provided_right r test part h = tells_right r test part (λ u x. fine x) h

-- the next of a list
pub next_of : {X : Type 0} (xs : List X) (i : ℕ) (x : X) → i < length xs → x ≡ get_or xs i x → drop i xs ≡ x ∷ drop (i + 1) xs
next_of xs i x h e = drop_more xs i x h ∙ ap (λ y. y ∷ drop (i + 1) xs) (sym e)
