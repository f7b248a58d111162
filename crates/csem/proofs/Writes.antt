-- Reading after a write.
use Rattle.std.proofs.Common.{◌≡◌, ◌⊎◌, inl, inr, ℕ, zero, suc, List, [], ◌∷◌, Option, Some, None, refl, ap, ◌∙◌, subst, sym}
use Rattle.std.specs.Prelude.{slice_get}
use Rattle.csem.specs.Store.{Tree, Element, Array, Row, no_parts, and_part, Store, part_of, part_in, at_path, tree_at, change_part, change_in, put_at, put_in, put}
use Rattle.csem.specs.Laws.{IsNot, Parts, OtherObjectStays, OtherPartStays, WrittenIsRead}

less : {m n : ℕ} → IsNot (suc m) (suc n) → IsNot m n
less h e = h (ap suc e)

get_other : (store : Store) (x y : ℕ) (path : List ℕ) (new : Tree) → IsNot x y → slice_get (put_in store x path new) y ≡ slice_get store y
get_other [] x y path new h = refl
get_other (t ∷ store) zero zero path new h = absurd (h refl)
get_other (t ∷ store) zero (suc y) path new h = refl
get_other (t ∷ store) (suc x) zero path new h = refl
get_other (t ∷ store) (suc x) (suc y) path new h = get_other store x y path new (less h)

pub other_object_stays : OtherObjectStays
other_object_stays store w r new h = ap (λ t. at_path t r.path) (get_other store w.object r.object w.path new h)

-- the object itself, where there is one
abbrev changed : Option Tree → List ℕ → Tree → Option Tree
changed None path new = None
changed (Some t) path new = Some (put_at path new t)

get_same : (store : Store) (x : ℕ) (path : List ℕ) (new : Tree) → slice_get (put_in store x path new) x ≡ changed (slice_get store x) path new
get_same [] x path new = refl
get_same (t ∷ store) zero path new = refl
get_same (t ∷ store) (suc x) path new = get_same store x path new

pub at_none : (path : List ℕ) → at_path None path ≡ None
at_none [] = refl
at_none (i ∷ path) = at_none path

part_other : (row : Row) (i j : ℕ) (f : Tree → Tree) → IsNot i j → part_of (change_part row i f) j ≡ part_of row j
part_other no_parts i j f h = refl
part_other (and_part t row) zero zero f h = absurd (h refl)
part_other (and_part t row) zero (suc j) f h = refl
part_other (and_part t row) (suc i) zero f h = refl
part_other (and_part t row) (suc i) (suc j) f h = part_other row i j f (less h)

part_same : (row : Row) (i : ℕ) (path : List ℕ) (new : Tree) → part_of (change_part row i (put_at path new)) i ≡ changed (part_of row i) path new
part_same no_parts i path new = refl
part_same (and_part t row) zero path new = refl
part_same (and_part t row) (suc i) path new = part_same row i path new

in_other : (t : Tree) (i j : ℕ) (f : Tree → Tree) → IsNot i j → part_in (Some (change_in t i f)) j ≡ part_in (Some t) j
in_other (Element v) i j f h = refl
in_other (Array row) i j f h = part_other row i j f h

in_same : (t : Tree) (i : ℕ) (path : List ℕ) (new : Tree) → part_in (Some (change_in t i (put_at path new))) i ≡ changed (part_in (Some t) i) path new
in_same (Element v) i path new = refl
in_same (Array row) i path new = part_same row i path new

other_in : (o : Option Tree) (path path2 : List ℕ) (new : Tree) → Parts path path2 → at_path (changed o path new) path2 ≡ at_path o path2
other_in None path path2 new h = refl
other_in (Some t) [] path2 new h = absurd h
other_in (Some t) (i ∷ path) [] new h = absurd h
other_in (Some t) (i ∷ path) (j ∷ path2) new (inl h) = ap (λ o. at_path o path2) (in_other t i j (put_at path new) h)
other_in (Some t) (i ∷ path) (j ∷ path2) new (inr h) = subst (λ k. at_path (part_in (Some (change_in t i (put_at path new))) k) path2 ≡ at_path (part_in (Some t) k) path2) h.0 (ap (λ o. at_path o path2) (in_same t i path new) ∙ other_in (part_in (Some t) i) path path2 new h.1)

pub other_part_stays : OtherPartStays
other_part_stays store w r new h = by_object (nat_cases w.object r.object)
  where
    nat_cases : (m n : ℕ) → IsNot m n ⊎ (m ≡ n)
    nat_cases zero zero = inr refl
    nat_cases zero (suc n) = inl (λ e. cc e)
    nat_cases (suc m) zero = inl (λ e. cc e)
    nat_cases (suc m) (suc n) = next (nat_cases m n)
      where
        next : IsNot m n ⊎ (m ≡ n) → IsNot (suc m) (suc n) ⊎ (suc m ≡ suc n)
        next (inl h) = inl (λ e. h (cc e))
        next (inr e) = inr (ap suc e)

    by_object : IsNot w.object r.object ⊎ (w.object ≡ r.object) → tree_at (put store w new) r ≡ tree_at store r
    by_object (inl n) = other_object_stays store w r new n
    by_object (inr e) = subst (λ x. at_path (slice_get (put_in store w.object w.path new) x) r.path ≡ at_path (slice_get store x) r.path) e (ap (λ o. at_path o r.path) (get_same store w.object w.path new) ∙ other_in (slice_get store w.object) w.path r.path new h)

same_in : (o : Option Tree) (path : List ℕ) (old new : Tree) → at_path o path ≡ Some old → at_path (changed o path new) path ≡ Some new
same_in None path old new e = absurd (cc (sym (at_none path) ∙ e))
same_in (Some t) [] old new e = refl
same_in (Some t) (i ∷ path) old new e = ap (λ o. at_path o path) (in_same t i path new) ∙ same_in (part_in (Some t) i) path old new e

pub written_is_read : WrittenIsRead
written_is_read store r old new e = ap (λ o. at_path o r.path) (get_same store r.object r.path new) ∙ same_in (slice_get store r.object) r.path old new e
