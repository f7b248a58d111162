-- Trees of elements: their lengths, the types of their values, and the parts that a path leads to (ISO/IEC 9899:2011 6.2.5p20, 6.5.2.1).
use Rattle.std.proofs.Common.{◌≡◌, ℕ, zero, suc, ◌*◌, ◌<◌, List, [], ◌∷◌, Option, Some, None, true, ℤ, pos, refl, sym, ap, ◌∙◌, subst, arith}
use Rattle.std.specs.Prelude.{slice_get}
use Rattle.ctypes.specs.declared.types.IntType.{IntType}
use Rattle.ctypes.specs.Types.{IsValueOf}
use Rattle.typing_spec.specs.Types.{elements_in}
use Rattle.csem.specs.Store.{Tree, Element, Array, Row, no_parts, and_part, Store, Reference, parts, part_of, at_path, tree_at, value_of, change_part, put_at, put, set_value, zeroed, zeroed_row, set_zeros, repeated, filled}
use Rattle.csem.specs.Laws.{ValueFits}
use Rattle.csem.proofs.InPlace.{element_is_set, zeros_are_set}
use Rattle.tac_code.specs.Run.{elements_of, elements_of_row, is_element}

-- a tree of these lengths, whose elements that have a value have one of type t
abbrev mutual
  pub HasShape : IntType → List ℕ → Tree → Type 0
  HasShape t [] (Element v) = ValueFits t v
  HasShape t [] (Array row) = ⊥
  HasShape t (n ∷ l) (Element v) = ⊥
  HasShape t (n ∷ l) (Array row) = RowHas t n l row

  pub RowHas : IntType → ℕ → List ℕ → Row → Type 0
  RowHas t zero l no_parts = Unit {0}
  RowHas t zero l (and_part part row) = ⊥
  RowHas t (suc n) l no_parts = ⊥
  RowHas t (suc n) l (and_part part row) = HasShape t l part × RowHas t n l row

-- a path leads from an array of some lengths to a part of others
abbrev pub Leads : (path from to : List ℕ) → Type 0
Leads [] l rest = l ≡ rest
Leads (i ∷ path) [] rest = ⊥
Leads (i ∷ path) (n ∷ l) rest = (i < n) × Leads path l rest

-- ---- the target of a path

pub record Sub (t : IntType) (l : List ℕ) (o : Option Tree) : Type 0 where
  pub tree : Tree
  pub is : o ≡ Some tree
  pub has : HasShape t l tree

pub part_there : (t : IntType) (n : ℕ) (l : List ℕ) (row : Row) (i : ℕ) → i < n → RowHas t n l row → Sub t l (part_of row i)
part_there t zero l row i lt h = absurd (omega (arith, lt))
part_there t (suc n) l no_parts i lt h = absurd h
part_there t (suc n) l (and_part part row) zero lt h = record { tree = part; is = refl; has = h.0 }
part_there t (suc n) l (and_part part row) (suc i) lt h =
    let more = part_there t n l row i (omega (arith, lt)) h.1 in record { tree = more.tree; is = more.is; has = more.has }

pub sub_there : (path : List ℕ) (t : IntType) (l rest : List ℕ) (old : Tree) → Leads path l rest → HasShape t l old → Sub t rest (at_path (Some old) path)
sub_there [] t l rest old lead h = record { tree = old; is = refl; has = subst (λ z. HasShape t z old) lead h }
sub_there (i ∷ path) t [] rest old lead h = absurd lead
sub_there (i ∷ path) t (n ∷ l) rest (Element v) lead h = absurd h
sub_there (i ∷ path) t (n ∷ l) rest (Array row) lead h =
    let one = part_there t n l row i lead.0 h in
    let more = sub_there path t l rest one.tree lead.1 one.has in
    record { tree = more.tree; is = ap (λ o. at_path o path) one.is ∙ more.is; has = more.has }

-- ---- another tree at the end of a path

row_change : (t : IntType) (n : ℕ) (l : List ℕ) (row : Row) (i : ℕ) (change : Tree → Tree) → RowHas t n l row
    → ((part : Tree) → HasShape t l part → HasShape t l (change part)) → RowHas t n l (change_part row i change)
row_change t zero l no_parts i change h c = tt
row_change t zero l (and_part part row) i change h c = absurd h
row_change t (suc n) l no_parts i change h c = absurd h
row_change t (suc n) l (and_part part row) zero change h c = (c part h.0, h.1)
row_change t (suc n) l (and_part part row) (suc i) change h c = (h.0, row_change t n l row i change h.1 c)

pub shape_put : (path : List ℕ) (t : IntType) (l rest : List ℕ) (old new : Tree) → Leads path l rest → HasShape t l old → HasShape t rest new
    → HasShape t l (put_at path new old)
shape_put [] t l rest old new lead h g = subst (λ z. HasShape t z new) (sym lead) g
shape_put (i ∷ path) t [] rest old new lead h g = absurd lead
shape_put (i ∷ path) t (n ∷ l) rest (Element v) new lead h g = absurd h
shape_put (i ∷ path) t (n ∷ l) rest (Array row) new lead h g =
    row_change t n l row i (put_at path new) h (λ part hp. shape_put path t l rest part new lead.1 hp g)

-- ---- elements

pub value_in : (t : IntType) (l : List ℕ) (tree : Tree) (v : ℤ) → HasShape t l tree → value_of (Some tree) ≡ Some v → IsValueOf t v
value_in t [] (Element None) v h e = absurd (let z : ⊥ = cc in z)
value_in t [] (Element (Some u)) v h e = subst (IsValueOf t) (let z : u ≡ v = cc in z) h
value_in t [] (Array row) v h e = absurd h
value_in t (n ∷ l) (Element u) v h e = absurd h
value_in t (n ∷ l) (Array row) v h e = absurd (let z : ⊥ = cc in z)

pub shape_scalar : (t : IntType) (l : List ℕ) (tree : Tree) → HasShape t l tree → is_element (Some tree) ≡ true → l ≡ []
shape_scalar t [] tree h e = refl
shape_scalar t (n ∷ l) (Element v) h e = absurd h
shape_scalar t (n ∷ l) (Array row) h e = absurd (let z : ⊥ = cc in z)

pub is_scalar_tree : (t : IntType) (tree : Tree) → HasShape t [] tree → is_element (Some tree) ≡ true
is_scalar_tree t (Element v) h = refl
is_scalar_tree t (Array row) h = absurd h

-- ---- lengths and sizes

pub parts_are : (t : IntType) (n : ℕ) (l : List ℕ) (row : Row) → RowHas t n l row → parts row ≡ n
parts_are t zero l no_parts h = refl
parts_are t zero l (and_part part row) h = absurd h
parts_are t (suc n) l no_parts h = absurd h
parts_are t (suc n) l (and_part part row) h = ap suc (parts_are t n l row h.1)

mutual
  pub elements_are : (t : IntType) (l : List ℕ) (tree : Tree) → HasShape t l tree → elements_of tree ≡ elements_in l
  elements_are t [] (Element v) h = refl
  elements_are t [] (Array row) h = absurd h
  elements_are t (n ∷ l) (Element v) h = absurd h
  elements_are t (n ∷ l) (Array row) h = row_elements t n l row h

  row_elements : (t : IntType) (n : ℕ) (l : List ℕ) (row : Row) → RowHas t n l row → elements_of_row row ≡ n * elements_in l
  row_elements t zero l no_parts h = omega arith
  row_elements t zero l (and_part part row) h = absurd h
  row_elements t (suc n) l no_parts h = absurd h
  row_elements t (suc n) l (and_part part row) h =
      let one = elements_are t l part h.0 in
      let others = row_elements t n l row h.1 in
      omega (arith, one, others)

-- ---- new trees (6.2.4p6)

row_filled : (t : IntType) (l : List ℕ) (tree : Tree) (n : ℕ) → HasShape t l tree → RowHas t n l (repeated n tree)
row_filled t l tree zero h = tt
row_filled t l tree (suc n) h = (h, row_filled t l tree n h)

pub filled_has : (t : IntType) (v : Option ℤ) (l : List ℕ) → ValueFits t v → HasShape t l (filled v l)
filled_has t v [] h = h
filled_has t v (n ∷ l) h = row_filled t l (filled v l) n (filled_has t v l h)

-- ---- values that are written in place: an array keeps its lengths

-- the target of a reference
pub target_there : (store : Store) (r : Reference) (t : IntType) (l rest : List ℕ) (tree : Tree) → slice_get store r.object ≡ Some tree → HasShape t l tree
    → Leads r.path l rest → Sub t rest (tree_at store r)
target_there store r t l rest tree e h lead =
    let sub = sub_there r.path t l rest tree lead h in
    record { tree = sub.tree; is = ap (λ o. at_path o r.path) e ∙ sub.is; has = sub.has }

-- an element that becomes v
pub set_there : (store : Store) (r : Reference) (t : IntType) (v : ℤ) → Sub t [] (tree_at store r) → set_value store r v ≡ put store r (Element (Some v))
set_there store r t v sub = by_tree sub.tree sub.is sub.has
  where
    by_tree : (tree : Tree) → tree_at store r ≡ Some tree → HasShape t [] tree → set_value store r v ≡ put store r (Element (Some v))
    by_tree (Element w) e h = element_is_set store r w v e
    by_tree (Array row) e h = absurd h

mutual
  zeroed_is : (t : IntType) (l : List ℕ) (tree : Tree) → HasShape t l tree → zeroed tree ≡ filled (Some (pos 0)) l
  zeroed_is t [] (Element v) h = refl
  zeroed_is t [] (Array row) h = absurd h
  zeroed_is t (n ∷ l) (Element v) h = absurd h
  zeroed_is t (n ∷ l) (Array row) h = ap Array (zeroed_row_is t n l row h)

  zeroed_row_is : (t : IntType) (n : ℕ) (l : List ℕ) (row : Row) → RowHas t n l row → zeroed_row row ≡ repeated n (filled (Some (pos 0)) l)
  zeroed_row_is t zero l no_parts h = refl
  zeroed_row_is t zero l (and_part part row) h = absurd h
  zeroed_row_is t (suc n) l no_parts h = absurd h
  zeroed_row_is t (suc n) l (and_part part row) h =
      ap (λ x. and_part x (zeroed_row row)) (zeroed_is t l part h.0) ∙ ap (and_part (filled (Some (pos 0)) l)) (zeroed_row_is t n l row h.1)

-- a part of these lengths that becomes zero
pub zeros_there : (store : Store) (r : Reference) (t : IntType) (l : List ℕ) → Sub t l (tree_at store r)
    → set_zeros store r ≡ put store r (filled (Some (pos 0)) l)
zeros_there store r t l sub = zeros_are_set store r sub.tree sub.is ∙ ap (put store r) (zeroed_is t l sub.tree sub.has)
