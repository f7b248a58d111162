-- Facts of each item of a list, one after the other.
use Rattle.std.proofs.Common.{◌≡◌, ℕ, zero, suc, ◌+◌, ◌<◌, List, [], ◌∷◌, length, map, get_or, Some, sym, ap, subst, arith, ◌∙◌, inl, inr, refl, Bool, true, false}
use Rattle.std.specs.Prelude.{slice_get, IsTrue}
use Rattle.std.proofs.lemmas.Bool.{cases_lt}
use Rattle.std.proofs.lemmas.Option.{same_Some}

pub got_in_map : {A B : Type 0} (f : A → B) (xs : List A) (i : ℕ) (x : A) → i < length xs → x ≡ get_or xs i x → slice_get (map f xs) i ≡ Some (f x)
got_in_map f [] i x lt e = absurd (omega (arith, lt))
got_in_map f (y ∷ xs) zero x lt e = ap (λ z. Some (f z)) (sym e)
got_in_map f (y ∷ xs) (suc i) x lt e = got_in_map f xs i x (omega (arith, lt)) e

pub one_more : {A B : Type 0} (P : B → Type 0) (f : A → B) (xs : List A) (i : ℕ) (x : A) → ((k : ℕ) (y : B) → k < i → slice_get (map f xs) k ≡ Some y → P y) → i < length xs → x ≡ get_or xs i x → P (f x)
    → (k : ℕ) (y : B) → k < i + 1 → slice_get (map f xs) k ≡ Some y → P y
one_more P f xs i x before lt e fits k y below got = elim (cases_lt k i) [
  | inl lower ↦ before k y lower got
  | inr upper ↦ (
      let same : k ≡ i = omega (arith, below, upper) in
      let there : slice_get (map f xs) k ≡ Some (f x) = ap (slice_get (map f xs)) same ∙ got_in_map f xs i x lt e in
      subst P (same_Some (f x) y (sym there ∙ got)) fits)
]

abbrev IsTruth : Bool → Type 0
IsTruth true = Unit {0}
IsTruth false = ⊥

pub false-true : false ≡ true → ⊥
false-true e = subst IsTruth (sym e) tt

-- one that does not fit refutes that all do
pub not_all : {A B : Type 0} (P : B → Type 0) (f : A → B) (xs : List A) (i : ℕ) (x : A) → i < length xs → x ≡ get_or xs i x → (P (f x) → IsTrue false)
    → ((k : ℕ) (y : B) → k < length xs → slice_get (map f xs) k ≡ Some y → P y) → IsTrue false
not_all P f xs i x lt e refuted each = refuted (each i (f x) lt (got_in_map f xs i x lt e))

pub got_in : {A : Type 0} (xs : List A) (i : ℕ) (d : A) → i < length xs → slice_get xs i ≡ Some (get_or xs i d)
got_in [] i d lt = absurd (omega (arith, lt))
got_in (y ∷ xs) zero d lt = refl
got_in (y ∷ xs) (suc i) d lt = got_in xs i d (omega (arith, lt))

pub one_more_here : {A : Type 0} (P : A → Type 0) (xs : List A) (i : ℕ) (d : A) → ((k : ℕ) (y : A) → k < i → slice_get xs k ≡ Some y → P y) → i < length xs → P (get_or xs i d)
    → (k : ℕ) (y : A) → k < i + 1 → slice_get xs k ≡ Some y → P y
one_more_here P xs i d before lt fits k y below got = elim (cases_lt k i) [
  | inl lower ↦ before k y lower got
  | inr upper ↦ (
      let same : k ≡ i = omega (arith, below, upper) in
      let there : slice_get xs k ≡ Some (get_or xs i d) = ap (slice_get xs) same ∙ got_in xs i d lt in
      subst P (same_Some (get_or xs i d) y (sym there ∙ got)) fits)
]
