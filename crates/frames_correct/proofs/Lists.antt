-- The elements of joined lists.
use Rattle.std.proofs.Common.{◌≡◌, ◌⊎◌, inl, inr, ℕ, zero, suc, ◌+◌, ◌<◌, ◌≤◌, List, [], ◌∷◌, ◌++◌, length, take, drop, map, Some, Bool, true, false, refl, sym, ap, ◌∙◌, arith}
use Rattle.std.specs.Prelude.{slice_get, ◌&&◌}

pub bool_cases : {P : Type 0} → (b : Bool) → (b ≡ true → P) → (b ≡ false → P) → P
bool_cases true yes_case no_case = yes_case refl
bool_cases false yes_case no_case = no_case refl

pub same_some : {A : Type 0} (x y : A) → Some x ≡ Some y → x ≡ y
same_some x y e = cc

pub get_left : {A : Type 0} (xs ys : List A) (n : ℕ) (x : A) → slice_get xs n ≡ Some x → slice_get (xs ++ ys) n ≡ Some x
get_left [] ys n x e = absurd (let z : ⊥ = cc in z)
get_left (z ∷ xs) ys zero x e = e
get_left (z ∷ xs) ys (suc n) x e = get_left xs ys n x e

pub get_right : {A : Type 0} (xs ys : List A) (k : ℕ) → slice_get (xs ++ ys) (length xs + k) ≡ slice_get ys k
get_right [] ys k = ap (slice_get ys) (let e : 0 + k ≡ k = omega arith in e)
get_right (x ∷ xs) ys k = ap (slice_get (x ∷ xs ++ ys)) (let e : suc (length xs) + k ≡ suc (length xs + k) = omega arith in e) ∙ get_right xs ys k

pub record IsBehind {A : Type 0} (xs ys : List A) (n : ℕ) (x : A) : Type 0 where
  pub number : ℕ
  pub sum : n ≡ length xs + number
  pub is : slice_get ys number ≡ Some x

pub get_in_both : {A : Type 0} (xs ys : List A) (n : ℕ) (x : A) → slice_get (xs ++ ys) n ≡ Some x → (slice_get xs n ≡ Some x) ⊎ IsBehind xs ys n x
get_in_both [] ys n x e = inr (record { number = n; sum = omega arith; is = e })
get_in_both (z ∷ xs) ys zero x e = inl e
get_in_both (z ∷ xs) ys (suc n) x e = next (get_in_both xs ys n x e)
  where
    next : (slice_get xs n ≡ Some x) ⊎ IsBehind xs ys n x → (slice_get (z ∷ xs) (suc n) ≡ Some x) ⊎ IsBehind (z ∷ xs) ys (suc n) x
    next (inl f) = inl f
    next (inr b) = inr (record { number = b.number; sum = omega (arith, b.sum); is = b.is })

pub some_below : {A : Type 0} (xs : List A) (n : ℕ) (x : A) → slice_get xs n ≡ Some x → n < length xs
some_below [] n x e = absurd (let z : ⊥ = cc in z)
some_below (z ∷ xs) zero x e = omega arith
some_below (z ∷ xs) (suc n) x e = omega (arith, some_below xs n x e)

pub record Got {A : Type 0} (xs : List A) (n : ℕ) : Type 0 where
  pub element : A
  pub is : slice_get xs n ≡ Some element

pub got_below : {A : Type 0} (xs : List A) (n : ℕ) → n < length xs → Got xs n
got_below [] n lt = absurd (omega (arith, lt))
got_below (z ∷ xs) zero lt = record { element = z; is = refl }
got_below (z ∷ xs) (suc n) lt = let more = got_below xs n (omega (arith, lt)) in record { element = more.element; is = more.is }

pub get_map : {A B : Type 0} (f : A → B) (xs : List A) (n : ℕ) (x : A) → slice_get xs n ≡ Some x → slice_get (map f xs) n ≡ Some (f x)
get_map f [] n x e = absurd (let z : ⊥ = cc in z)
get_map f (y ∷ xs) zero x e = ap (λ z. Some (f z)) (same_some y x e)
get_map f (y ∷ xs) (suc n) x e = get_map f xs n x e

pub record Mapped {A B : Type 0} (f : A → B) (xs : List A) (n : ℕ) (y : B) : Type 0 where
  pub from : A
  pub from_is : slice_get xs n ≡ Some from
  pub is : f from ≡ y

pub from_map : {A B : Type 0} (f : A → B) (xs : List A) (n : ℕ) (y : B) → slice_get (map f xs) n ≡ Some y → Mapped f xs n y
from_map f [] n y e = absurd (let z : ⊥ = cc in z)
from_map f (x ∷ xs) zero y e = record { from = x; from_is = refl; is = same_some (f x) y e }
from_map f (x ∷ xs) (suc n) y e = let more = from_map f xs n y e in record { from = more.from; from_is = more.from_is; is = more.is }

pub length_map : {A B : Type 0} (f : A → B) (xs : List A) → length (map f xs) ≡ length xs
length_map f [] = refl
length_map f (x ∷ xs) = ap suc (length_map f xs)

pub length_both : {A : Type 0} (xs ys : List A) → length (xs ++ ys) ≡ length xs + length ys
length_both [] ys = omega arith
length_both (x ∷ xs) ys = omega (arith, length_both xs ys)

-- two places in a list
pub same_place : {A : Type 0} (xs : List A) (m n : ℕ) (x y : A) → m ≡ n → slice_get xs m ≡ Some x → slice_get xs n ≡ Some y → x ≡ y
same_place xs m n x y e ex ey = same_some x y (sym ex ∙ (ap (slice_get xs) e ∙ ey))

pub map_both : {A B : Type 0} (f : A → B) (xs ys : List A) → map f (xs ++ ys) ≡ map f xs ++ map f ys
map_both f [] ys = refl
map_both f (x ∷ xs) ys = ap (λ zs. f x ∷ zs) (map_both f xs ys)

pub both_true : (a b : Bool) → (a && b) ≡ true → (a ≡ true) × (b ≡ true)
both_true true b e = (refl, e)
both_true false b e = absurd (let z : ⊥ = cc in z)

pub get_take : {A : Type 0} (n : ℕ) (xs : List A) (k : ℕ) → k < n → slice_get (take n xs) k ≡ slice_get xs k
get_take zero xs k lt = absurd (omega (arith, lt))
get_take (suc n) [] k lt = refl
get_take (suc n) (x ∷ xs) zero lt = refl
get_take (suc n) (x ∷ xs) (suc k) lt = get_take n xs k (omega (arith, lt))

pub length_take : {A : Type 0} (n : ℕ) (xs : List A) → n ≤ length xs → length (take n xs) ≡ n
length_take zero xs le = refl
length_take (suc n) [] le = absurd (omega (arith, le))
length_take (suc n) (x ∷ xs) le = ap suc (length_take n xs (omega (arith, le)))

pub get_drop : {A : Type 0} (n : ℕ) (xs : List A) (k : ℕ) → slice_get (drop n xs) k ≡ slice_get xs (n + k)
get_drop zero xs k = ap (slice_get xs) (let e : k ≡ 0 + k = omega arith in e)
get_drop (suc n) [] k = refl
get_drop (suc n) (x ∷ xs) k = get_drop n xs k ∙ ap (slice_get (x ∷ xs)) (let e : suc (n + k) ≡ suc n + k = omega arith in e)

pub length_drop : {A : Type 0} (n : ℕ) (xs : List A) → n ≤ length xs → n + length (drop n xs) ≡ length xs
length_drop zero xs le = omega arith
length_drop (suc n) [] le = absurd (omega (arith, le))
length_drop (suc n) (x ∷ xs) le = omega (arith, length_drop n xs (omega (arith, le)))
