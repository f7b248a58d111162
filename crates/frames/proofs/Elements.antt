-- Properties of each element of a list, and sums.
use Rattle.std.proofs.Common.{◌≡◌, ℕ, zero, suc, ◌+◌, ◌<◌, ◌≤◌, List, [], ◌∷◌, ◌++◌, length, map, get_or, drop, append_assoc, Some, refl, sym, ap, ◌∙◌, subst, arith}
use Rattle.std.specs.Prelude.{slice_get, sum_by}
use Rattle.std.proofs.Math.Seq.{drop-cons}
use Rattle.std.proofs.lemmas.List.Sums.{sum_by-cons}

pub each_in_both : {A : Type 0} (P : A → Type 0) (xs ys : List A) → ((k : ℕ) (x : A) → slice_get xs k ≡ Some x → P x) → ((k : ℕ) (x : A) → slice_get ys k ≡ Some x → P x) → (k : ℕ) (x : A) → slice_get (xs ++ ys) k ≡ Some x → P x
each_in_both P [] ys a b k x e = b k x e
each_in_both P (z ∷ zs) ys a b zero x e = a zero x e
each_in_both P (z ∷ zs) ys a b (suc k) x e = each_in_both P zs ys (λ j y h. a (suc j) y h) b k x e

pub same_some : {A : Type 0} (x y : A) → Some x ≡ Some y → x ≡ y
same_some x y e = cc

pub each_in_map : {A B : Type 0} (P : B → Type 0) (h : A → B) (xs : List A) → ((k : ℕ) (x : A) → slice_get xs k ≡ Some x → P (h x)) → (k : ℕ) (y : B) → slice_get (map h xs) k ≡ Some y → P y
each_in_map P h [] a k y e = absurd (let x : ⊥ = cc in x)
each_in_map P h (z ∷ zs) a zero y e = subst P (same_some (h z) y e) (a zero z refl)
each_in_map P h (z ∷ zs) a (suc k) y e = each_in_map P h zs (λ j x g. a (suc j) x g) k y e

pub got_in_map : {A B : Type 0} (h : A → B) (xs : List A) (k : ℕ) (x : A) → slice_get xs k ≡ Some x → slice_get (map h xs) k ≡ Some (h x)
got_in_map h [] k x e = absurd (let z : ⊥ = cc in z)
got_in_map h (y ∷ xs) zero x e = ap (λ z. Some (h z)) (same_some y x e)
got_in_map h (y ∷ xs) (suc k) x e = got_in_map h xs k x e

pub record Got {A : Type 0} (xs : List A) (k : ℕ) : Type 0 where
  pub element : A
  pub is : slice_get xs k ≡ Some element

pub got_below : {A : Type 0} (xs : List A) (k : ℕ) → k < length xs → Got xs k
got_below [] k lt = absurd (omega (arith, lt))
got_below (y ∷ xs) zero lt = record { element = y; is = refl }
got_below (y ∷ xs) (suc k) lt = let more = got_below xs k (omega (arith, lt)) in record { element = more.element; is = more.is }

pub sum_by_map : {A B : Type 0} (g : B → ℕ) (h : A → B) (k : A → ℕ) → ((x : A) → g (h x) ≡ k x) → (xs : List A) → sum_by g (map h xs) ≡ sum_by k xs
sum_by_map g h k each [] = refl
sum_by_map g h k each (x ∷ xs) =
    sum_by-cons g (h x) (map h xs) ∙ ap (λ n. n + sum_by g (map h xs)) (each x) ∙ ap (λ n. k x + n) (sum_by_map g h k each xs) ∙ sym (sum_by-cons k x xs)

pub sum_by_map_le : {A B : Type 0} (g : B → ℕ) (h : A → B) (k : A → ℕ) → ((x : A) → g (h x) ≤ k x) → (xs : List A) → sum_by g (map h xs) ≤ sum_by k xs
sum_by_map_le g h k each [] = omega arith
sum_by_map_le g h k each (x ∷ xs) =
    omega (arith, sum_by-cons g (h x) (map h xs), sum_by-cons k x xs, each x, sum_by_map_le g h k each xs)

pub item_in_map : {A B : Type 0} (f : A → B) (xs : List A) (i : ℕ) (x : A) → i < length xs → x ≡ get_or xs i x → slice_get (map f xs) i ≡ Some (f x)
item_in_map f [] i x lt e = absurd (omega (arith, lt))
item_in_map f (y ∷ xs) zero x lt e = ap (λ z. Some (f z)) (sym e)
item_in_map f (y ∷ xs) (suc i) x lt e = item_in_map f xs i x (omega (arith, lt)) e

pub one_of_sum : {A : Type 0} (f : A → ℕ) (xs : List A) (i : ℕ) (x : A) → slice_get xs i ≡ Some x → f x ≤ sum_by f xs
one_of_sum f [] i x e = absurd (let z : ⊥ = cc in z)
one_of_sum f (y ∷ xs) zero x e = let same : f y ≡ f x = ap f (same_some y x e) in omega (arith, same, sum_by-cons f y xs)
one_of_sum f (y ∷ xs) (suc i) x e = omega (arith, one_of_sum f xs i x e, sum_by-cons f y xs)

pub one_more_made : {A B : Type 0} (made : A → B) (xs : List A) (i : ℕ) (x : A) (y : B) (old more start : List B) → i < length xs → x ≡ get_or xs i x → more ≡ old ++ y ∷ [] → y ≡ made x → old ++ map made (drop i xs) ≡ start → more ++ map made (drop (i + 1) xs) ≡ start
one_more_made made xs i x y old more start lt e f same done =
    let next : suc i ≡ i + 1 = omega arith in
    let split : drop i xs ≡ x ∷ drop (i + 1) xs = drop-cons xs i x lt ∙ ap (λ z. z ∷ drop (suc i) xs) (sym e) ∙ ap (λ k. x ∷ drop k xs) next in
    ap (λ zs. zs ++ map made (drop (i + 1) xs)) (f ∙ ap (λ z. old ++ z ∷ []) same) ∙ append_assoc old (made x ∷ []) (map made (drop (i + 1) xs))
    ∙ sym (ap (λ zs. old ++ map made zs) split) ∙ done

pub one_more_held : {A B C : Type 0} (seen : A → B) (made : B → C) (xs : List A) (i : ℕ) (x : A) (y : C) (old more start : List C) → i < length xs → x ≡ get_or xs i x → more ≡ old ++ y ∷ [] → y ≡ made (seen x) → old ++ map made (map seen (drop i xs)) ≡ start → more ++ map made (map seen (drop (i + 1) xs)) ≡ start
one_more_held seen made xs i x y old more start lt e f same done =
    let next : suc i ≡ i + 1 = omega arith in
    let split : drop i xs ≡ x ∷ drop (i + 1) xs = drop-cons xs i x lt ∙ ap (λ z. z ∷ drop (suc i) xs) (sym e) ∙ ap (λ k. x ∷ drop k xs) next in
    ap (λ zs. zs ++ map made (map seen (drop (i + 1) xs))) (f ∙ ap (λ z. old ++ z ∷ []) same) ∙ append_assoc old (made (seen x) ∷ []) (map made (map seen (drop (i + 1) xs)))
    ∙ sym (ap (λ zs. old ++ map made (map seen zs)) split) ∙ done
