-- Of truth values, options and lists.
use Rattle.std.proofs.Common.{◌≡◌, ℕ, zero, suc, ◌+◌, ◌<◌, ◌&&◌, Bool, true, false, List, [], ◌∷◌, ◌++◌, length, map, get_or, drop, append_assoc, Some, refl, sym, ap, ◌∙◌, subst, arith}
use Rattle.std.specs.Prelude.{slice_get, sum_by}
use Rattle.std.proofs.Math.Seq.{drop-cons}
use Rattle.std.proofs.lemmas.List.Sums.{sum_by-cons}

pub bool_cases : {A : Type 0} (b : Bool) → (b ≡ true → A) → (b ≡ false → A) → A
bool_cases true on_true on_false = on_true refl
bool_cases false on_true on_false = on_false refl

pub and_left : (a b : Bool) → (a && b) ≡ true → a ≡ true
and_left true b h = refl
and_left false b h = cc

pub and_right : (a b : Bool) → (a && b) ≡ true → b ≡ true
and_right true b h = h
and_right false b h = cc

pub same_some : {A : Type 0} (x y : A) → Some x ≡ Some y → x ≡ y
same_some x y e = cc

pub item_in_map : {A B : Type 0} (f : A → B) (xs : List A) (i : ℕ) (x : A) → i < length xs → x ≡ get_or xs i x → slice_get (map f xs) i ≡ Some (f x)
item_in_map f [] i x lt e = absurd (omega (arith, lt))
item_in_map f (y ∷ xs) zero x lt e = ap (λ z. Some (f z)) (sym e)
item_in_map f (y ∷ xs) (suc i) x lt e = item_in_map f xs i x (omega (arith, lt)) e

-- one more item was made of those of which the first i are done
pub one_more_held : {A B C : Type 0} (seen : A → B) (made : B → C) (xs : List A) (i : ℕ) (x : A) (y : C) (old more start : List C) → i < length xs → x ≡ get_or xs i x
    → more ≡ old ++ y ∷ [] → y ≡ made (seen x) → old ++ map made (map seen (drop i xs)) ≡ start → more ++ map made (map seen (drop (i + 1) xs)) ≡ start
one_more_held seen made xs i x y old more start lt e f same done =
    let next : suc i ≡ i + 1 = omega arith in
    let split : drop i xs ≡ x ∷ drop (i + 1) xs = drop-cons xs i x lt ∙ ap (λ z. z ∷ drop (suc i) xs) (sym e) ∙ ap (λ k. x ∷ drop k xs) next in
    ap (λ zs. zs ++ map made (map seen (drop (i + 1) xs))) (f ∙ ap (λ z. old ++ z ∷ []) same) ∙ append_assoc old (made (seen x) ∷ []) (map made (map seen (drop (i + 1) xs)))
    ∙ sym (ap (λ zs. old ++ map made (map seen zs)) split) ∙ done

pub sum_by_map : {A B : Type 0} (g : B → ℕ) (h : A → B) (k : A → ℕ) → ((x : A) → g (h x) ≡ k x) → (xs : List A) → sum_by g (map h xs) ≡ sum_by k xs
sum_by_map g h k each [] = refl
sum_by_map g h k each (x ∷ xs) =
    sum_by-cons g (h x) (map h xs) ∙ ap (λ n. n + sum_by g (map h xs)) (each x) ∙ ap (λ n. k x + n) (sum_by_map g h k each xs) ∙ sym (sum_by-cons k x xs)

-- a property of each two items at the same place holds with one more
pub each_snoc : {F G : Type 0} (P : ℕ → F → G → Type 0) (fs : List F) (gs : List G) (f0 : F) (g0 : G) → slice_get fs (length gs) ≡ Some f0 → P (length gs) f0 g0
    → ((n : ℕ) (f : F) (g : G) → slice_get fs n ≡ Some f → slice_get gs n ≡ Some g → P n f g)
    → (n : ℕ) (f : F) (g : G) → slice_get fs n ≡ Some f → slice_get (gs ++ g0 ∷ []) n ≡ Some g → P n f g
each_snoc P [] gs f0 g0 there last each n f g e h = absurd (let z : ⊥ = cc in z)
each_snoc P (x ∷ fs) [] f0 g0 there last each zero f g e h =
    subst (λ k. P 0 f k) (same_some g0 g h) (subst (λ k. P 0 k g0) (sym (same_some x f0 there) ∙ same_some x f e) last)
each_snoc P (x ∷ fs) [] f0 g0 there last each (suc n) f g e h = absurd (let z : ⊥ = cc in z)
each_snoc P (x ∷ fs) (y ∷ gs) f0 g0 there last each zero f g e h = each zero f g e h
each_snoc P (x ∷ fs) (y ∷ gs) f0 g0 there last each (suc n) f g e h =
    each_snoc (λ k. P (suc k)) fs gs f0 g0 there last (λ k a b u v. each (suc k) a b u v) n f g e h
