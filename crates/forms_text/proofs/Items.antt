-- Items of lists.
use Rattle.std.proofs.Common.{◌≡◌, ℕ, zero, suc, ◌<◌, List, [], ◌∷◌, Option, Some, map, length, get_or, ap, sym, arith}
use Rattle.std.specs.Prelude.{slice_get}

pub item_in_map : {A B : Type 0} (f : A → B) (xs : List A) (i : ℕ) (x : A) → i < length xs → x ≡ get_or xs i x → slice_get (map f xs) i ≡ Some (f x)
item_in_map f [] i x lt e = absurd (omega (arith, lt))
item_in_map f (y ∷ xs) zero x lt e = ap (λ z. Some (f z)) (sym e)
item_in_map f (y ∷ xs) (suc i) x lt e = item_in_map f xs i x (omega (arith, lt)) e
