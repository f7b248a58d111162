-- The store (ISO/IEC 9899:2011 6.2.4, 6.5.2.1): objects by number, each a tree of elements, and references into it.
use Rattle.std.specs.Prelude.{ℕ, zero, suc, List, [], ◌∷◌, ◌++◌, map, drop, Option, Some, None, ℤ, pos, slice_get}
use Rattle.typing_spec.specs.Types.{ObjectType, elements_in}
use Rattle.typing_spec.specs.Program.{Static, Program}

-- an element has a value or is indeterminate (3.19.2); an array is a row of such trees
mutual
  pub data Tree : Type 0 where
    Element : (value : Option ℤ) → Tree
    Array : (row : Row) → Tree

  pub data Row : Type 0 where
    no_parts : Row
    and_part : (part : Tree) (more : Row) → Row

-- the objects that live, in the order in which they were created
abbrev pub Store : Type 0
Store = List Tree

-- an object, and the subscripts of a row or an element in it, the outermost first
pub record Reference : Type 0 where
  pub object : ℕ
  pub path : List ℕ

abbrev pub whole : ℕ → Reference
whole x = record { object = x; path = [] }

-- 6.5.2.1p2: the element or row i of the array at r
abbrev pub into : Reference → ℕ → Reference
into r i = record { object = r.object; path = r.path ++ i ∷ [] }

-- ---- the tree at a reference

abbrev pub parts : Row → ℕ
parts no_parts = 0
parts (and_part t row) = suc (parts row)

abbrev pub part_of : Row → ℕ → Option Tree
part_of no_parts i = None
part_of (and_part t row) zero = Some t
part_of (and_part t row) (suc i) = part_of row i

abbrev pub part_in : Option Tree → ℕ → Option Tree
part_in None i = None
part_in (Some (Element v)) i = None
part_in (Some (Array row)) i = part_of row i

abbrev pub at_path : Option Tree → List ℕ → Option Tree
at_path t [] = t
at_path t (i ∷ path) = at_path (part_in t i) path

abbrev pub tree_at : Store → Reference → Option Tree
tree_at store r = at_path (slice_get store r.object) r.path

-- how many elements or rows an array has
abbrev pub length_of : Option Tree → ℕ
length_of None = 0
length_of (Some (Element v)) = 0
length_of (Some (Array row)) = parts row

-- the value of an element, none where it is indeterminate
abbrev pub value_of : Option Tree → Option ℤ
value_of None = None
value_of (Some (Element v)) = v
value_of (Some (Array row)) = None

abbrev pub value_at : Store → Reference → Option ℤ
value_at store r = value_of (tree_at store r)

-- ---- the store with another tree at a reference

abbrev pub change_part : Row → ℕ → (Tree → Tree) → Row
change_part no_parts i change = no_parts
change_part (and_part t row) zero change = and_part (change t) row
change_part (and_part t row) (suc i) change = and_part t (change_part row i change)

abbrev pub change_in : Tree → ℕ → (Tree → Tree) → Tree
change_in (Element v) i change = Element v
change_in (Array row) i change = Array (change_part row i change)

abbrev pub put_at : List ℕ → Tree → Tree → Tree
put_at [] new t = new
put_at (i ∷ path) new t = change_in t i (put_at path new)

abbrev pub put_in : Store → ℕ → List ℕ → Tree → Store
put_in [] x path new = []
put_in (t ∷ store) zero path new = put_at path new t ∷ store
put_in (t ∷ store) (suc x) path new = t ∷ put_in store x path new

abbrev pub put : Store → Reference → Tree → Store
put store r new = put_in store r.object r.path new

-- ---- the store with other values: an array keeps its lengths

-- an element becomes v; an array stays what it is
abbrev pub with_value : ℤ → Option Tree → Tree
with_value v None = Element (Some v)
with_value v (Some (Element w)) = Element (Some v)
with_value v (Some (Array row)) = Array row

-- the element at r, if there is one, becomes v
abbrev pub set_value : Store → Reference → ℤ → Store
set_value store r v = put store r (with_value v (tree_at store r))

-- each element becomes zero
abbrev mutual
  pub zeroed : Tree → Tree
  zeroed (Element v) = Element (Some (pos 0))
  zeroed (Array row) = Array (zeroed_row row)

  pub zeroed_row : Row → Row
  zeroed_row no_parts = no_parts
  zeroed_row (and_part t row) = and_part (zeroed t) (zeroed_row row)

abbrev pub with_zeros : Option Tree → Tree
with_zeros None = Element (Some (pos 0))
with_zeros (Some t) = zeroed t

-- each element of the part at r becomes zero
abbrev pub set_zeros : Store → Reference → Store
set_zeros store r = put store r (with_zeros (tree_at store r))

-- ---- new objects

abbrev pub repeated : ℕ → Tree → Row
repeated zero t = no_parts
repeated (suc n) t = and_part t (repeated n t)

-- an object of these lengths, with each element alike
abbrev pub filled : Option ℤ → List ℕ → Tree
filled v [] = Element v
filled v (n ∷ lengths) = Array (repeated n (filled v lengths))

-- 6.2.4p6: an object whose value is indeterminate
abbrev pub indeterminate : ObjectType → Tree
indeterminate t = filled None t.lengths

-- 6.7.9p10, p21: an object with static storage has the values of its elements in order; the others are zero
abbrev pub first_or_zero : List ℤ → ℤ
first_or_zero [] = pos 0
first_or_zero (v ∷ vs) = v

-- n parts of `size` elements each
abbrev pub row_of : ℕ → ℕ → (List ℤ → Tree) → List ℤ → Row
row_of zero size part vs = no_parts
row_of (suc n) size part vs = and_part (part vs) (row_of n size part (drop size vs))

abbrev pub laid_out : List ℕ → List ℤ → Tree
laid_out [] vs = Element (Some (first_or_zero vs))
laid_out (n ∷ lengths) vs = Array (row_of n (elements_in lengths) (laid_out lengths) vs)

abbrev pub static_object : Static → Tree
static_object o = laid_out o.type.lengths o.values

-- 6.4.5p6: the array of a string literal
abbrev pub characters_of : List ℕ → Row
characters_of [] = no_parts
characters_of (c ∷ text) = and_part (Element (Some (pos c))) (characters_of text)

abbrev pub literal_object : List ℕ → Tree
literal_object text = Array (characters_of text)

-- the objects before the run: the string literals, then those with static storage
abbrev pub first_store : Program → Store
first_store p = map literal_object p.literals ++ map static_object p.statics
