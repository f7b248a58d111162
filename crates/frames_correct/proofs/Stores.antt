-- The store after a write.
use Rattle.std.proofs.Common.{◌≡◌, ◌≢◌, ℕ, zero, suc, List, [], ◌∷◌, length, Some, refl, ap}
use Rattle.std.specs.Prelude.{slice_get}
use Rattle.csem.specs.Store.{Tree, Store, put_at, put_in}
use Rattle.frames_correct.proofs.Lists.{same_some}

pub put_other : (store : Store) (x y : ℕ) (path : List ℕ) (new : Tree) → x ≢ y → slice_get (put_in store x path new) y ≡ slice_get store y
put_other [] x y path new h = refl
put_other (t ∷ store) zero zero path new h = absurd (h refl)
put_other (t ∷ store) zero (suc y) path new h = refl
put_other (t ∷ store) (suc x) zero path new h = refl
put_other (t ∷ store) (suc x) (suc y) path new h = put_other store x y path new (λ e. h (ap suc e))

pub put_same : (store : Store) (x : ℕ) (path : List ℕ) (new t : Tree) → slice_get store x ≡ Some t → slice_get (put_in store x path new) x ≡ Some (put_at path new t)
put_same [] x path new t e = absurd (let z : ⊥ = cc in z)
put_same (u ∷ store) zero path new t e = ap (λ z. Some (put_at path new z)) (same_some u t e)
put_same (u ∷ store) (suc x) path new t e = put_same store x path new t e

pub put_length : (store : Store) (x : ℕ) (path : List ℕ) (new : Tree) → length (put_in store x path new) ≡ length store
put_length [] x path new = refl
put_length (t ∷ store) zero path new = refl
put_length (t ∷ store) (suc x) path new = ap suc (put_length store x path new)
