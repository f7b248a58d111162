-- Values that are written in place: an array keeps its lengths.
use Rattle.std.proofs.Common.{◌≡◌, ℕ, zero, suc, List, [], ◌∷◌, Some, None, refl, ap, ◌∙◌, sym}
use Rattle.std.specs.Prelude.{slice_get}
use Rattle.csem.specs.Store.{Tree, Element, Array, Row, no_parts, and_part, Store, part_of, at_path, change_part, put_at, put_in, put, with_value, with_zeros}
use Rattle.csem.specs.Laws.{ArrayStays, ElementIsSet, ZerosAreSet, NothingIsPut}

-- a tree that is put where it stands changes nothing
mutual
  pub put_back : (path : List ℕ) (t part : Tree) → at_path (Some t) path ≡ Some part → put_at path part t ≡ t
  put_back [] t part e = let q : t ≡ part = cc e in sym q
  put_back (i ∷ path) (Element v) part e = refl
  put_back (i ∷ path) (Array row) part e = ap Array (row_back row i path part e)

  row_back : (row : Row) (i : ℕ) (path : List ℕ) (part : Tree) → at_path (part_of row i) path ≡ Some part → change_part row i (put_at path part) ≡ row
  row_back no_parts i path part e = refl
  row_back (and_part t row) zero path part e = ap (λ t. and_part t row) (put_back path t part e)
  row_back (and_part t row) (suc i) path part e = ap (and_part t) (row_back row i path part e)

-- a tree that is put where there is nothing changes nothing
mutual
  pub put_nowhere : (path : List ℕ) (t new : Tree) → at_path (Some t) path ≡ None → put_at path new t ≡ t
  put_nowhere [] t new e = absurd (cc e)
  put_nowhere (i ∷ path) (Element v) new e = refl
  put_nowhere (i ∷ path) (Array row) new e = ap Array (row_nowhere row i path new e)

  row_nowhere : (row : Row) (i : ℕ) (path : List ℕ) (new : Tree) → at_path (part_of row i) path ≡ None → change_part row i (put_at path new) ≡ row
  row_nowhere no_parts i path new e = refl
  row_nowhere (and_part t row) zero path new e = ap (λ t. and_part t row) (put_nowhere path t new e)
  row_nowhere (and_part t row) (suc i) path new e = ap (and_part t) (row_nowhere row i path new e)

store_back : (store : Store) (x : ℕ) (path : List ℕ) (part : Tree) → at_path (slice_get store x) path ≡ Some part → put_in store x path part ≡ store
store_back [] x path part e = refl
store_back (t ∷ store) zero path part e = ap (λ t. t ∷ store) (put_back path t part e)
store_back (t ∷ store) (suc x) path part e = ap (λ rest. t ∷ rest) (store_back store x path part e)

store_nowhere : (store : Store) (x : ℕ) (path : List ℕ) (new : Tree) → at_path (slice_get store x) path ≡ None → put_in store x path new ≡ store
store_nowhere [] x path new e = refl
store_nowhere (t ∷ store) zero path new e = ap (λ t. t ∷ store) (put_nowhere path t new e)
store_nowhere (t ∷ store) (suc x) path new e = ap (λ rest. t ∷ rest) (store_nowhere store x path new e)

pub element_is_set : ElementIsSet
element_is_set store r w v e = ap (λ o. put store r (with_value v o)) e

pub zeros_are_set : ZerosAreSet
zeros_are_set store r tree e = ap (λ o. put store r (with_zeros o)) e

pub array_stays : ArrayStays
array_stays store r row v e = ap (λ o. put store r (with_value v o)) e ∙ store_back store r.object r.path (Array row) e

pub nothing_is_put : NothingIsPut
nothing_is_put store r new e = store_nowhere store r.object r.path new e
