-- Elements of lists.
use Rattle.std.proofs.Common.{◌≡◌, ℕ, zero, suc, ◌<◌, List, [], ◌∷◌, length, map, get_or, Some, refl, sym, ap, ◌∙◌, arith}
use Rattle.std.specs.Prelude.{slice_get, slice_index_or}

pub got_or : {A : Type 0} (xs : List A) (i : ℕ) (d : A) → i < length xs → slice_get xs i ≡ Some (slice_index_or xs i d)
got_or [] i d lt = absurd (omega (arith, lt))
got_or (y ∷ xs) zero d lt = refl
got_or (y ∷ xs) (suc i) d lt = got_or xs i d (omega (arith, lt))

pub got_in_map : {A B : Type 0} (f : A → B) (xs : List A) (i : ℕ) (x : A) → i < length xs → x ≡ get_or xs i x → slice_get (map f xs) i ≡ Some (f x)
got_in_map f [] i x lt e = absurd (omega (arith, lt))
got_in_map f (y ∷ xs) zero x lt e = ap (λ z. Some (f z)) (sym e)
got_in_map f (y ∷ xs) (suc i) x lt e = got_in_map f xs i x (omega (arith, lt)) e

pub got_here : {A : Type 0} (xs : List A) (i : ℕ) (x : A) → i < length xs → x ≡ slice_index_or xs i x → slice_get xs i ≡ Some x
got_here xs i x lt e = got_or xs i x lt ∙ ap Some (sym e)
