-- Values fit their types.
use Rattle.std.proofs.Common.{◌≡◌, ℕ, zero, suc, List, [], ◌∷◌, drop, Option, Some, None, Bool, true, false, not, ◌&&◌, ℤ, pos, negsuc, refl, arith}
use Rattle.std.specs.Prelude.{slice_get, int_le, ◌≤ℤ◌}
use Rattle.std.proofs.lemmas.Int.{ints}
use Rattle.std.proofs.lemmas.Bool.Decides.{nat_tests}
use Rattle.ctypes.specs.declared.types.IntType.{IntType}
use Rattle.ctypes.specs.declared.types.IntType.TheVariants as ty
use Rattle.ctypes.specs.declared.types.IntType.TheVariants.{Char, SChar, UChar, Short, UShort, Int, UInt, Long, ULong}
use Rattle.ctypes.specs.declared.operators.BinOp.TheVariants.{Sub, BitXor}
use Rattle.ctypes.specs.Types.{least, greatest, IsValueOf, is_value_of, truth, of_truth, converted}
use Rattle.ctypes.proofs.Uses.{converted_fits, computed_fits}
use Rattle.tree.specs.declared.expression.PrefixOp.TheVariants as prefix
use Rattle.typing_spec.specs.Types.{elements_in}
use Rattle.typing_spec.specs.Operators.{right_operand}
use Rattle.typing_spec.specs.WellTyped.{values_fit}
use Rattle.csem.specs.Store.{Tree, Element, Array, Row, no_parts, and_part, Store, part_of, part_in, at_path, value_of, change_part, change_in, put_at, put_in, tree_at, with_value, zeroed, zeroed_row, repeated, filled, row_of, laid_out}
use Rattle.csem.specs.Laws.{OperationFits, SignFits, TreeFits, RowFits, FitsWhere, ValueFits, ReadFits, WriteFits, SetFits, NewFits, StaticFits}

pub operation_fits : OperationFits
operation_fits op t a b = computed_fits op t (converted t a) (right_operand op t b) (converted_fits t a)

truth_fits : (b : Bool) → IsValueOf Int (of_truth b)
truth_fits true = (omega (arith, ints), omega (arith, ints))
truth_fits false = (omega (arith, ints), omega (arith, ints))

zero_fits : (t : IntType) → IsValueOf t (pos 0)
zero_fits ty.Bool = (omega (arith, ints), omega (arith, ints))
zero_fits Char = (omega (arith, ints), omega (arith, ints))
zero_fits SChar = (omega (arith, ints), omega (arith, ints))
zero_fits UChar = (omega (arith, ints), omega (arith, ints))
zero_fits Short = (omega (arith, ints), omega (arith, ints))
zero_fits UShort = (omega (arith, ints), omega (arith, ints))
zero_fits Int = (omega (arith, ints), omega (arith, ints))
zero_fits UInt = (omega (arith, ints), omega (arith, ints))
zero_fits Long = (omega (arith, ints), omega (arith, ints))
zero_fits ULong = (omega (arith, ints), omega (arith, ints))

pub sign_fits : SignFits
sign_fits prefix.Plus t a = converted_fits t a
sign_fits prefix.Minus t a = computed_fits Sub t (pos 0) (converted t a) (zero_fits t)
sign_fits prefix.Complement t a = computed_fits BitXor t (converted t a) (converted t (negsuc 0)) (converted_fits t a)
sign_fits prefix.Not t a = truth_fits (not (truth (converted t a)))

part_fits : (t : IntType) (row : Row) (i : ℕ) → RowFits t row → FitsWhere t (part_of row i)
part_fits t no_parts i h = tt
part_fits t (and_part a row) zero h = h.0
part_fits t (and_part a row) (suc i) h = part_fits t row i h.1

into_fits : (t : IntType) (o : Option Tree) (i : ℕ) → FitsWhere t o → FitsWhere t (part_in o i)
into_fits t None i h = tt
into_fits t (Some (Element v)) i h = tt
into_fits t (Some (Array row)) i h = part_fits t row i h

path_fits : (t : IntType) (path : List ℕ) (o : Option Tree) → FitsWhere t o → FitsWhere t (at_path o path)
path_fits t [] o h = h
path_fits t (i ∷ path) o h = path_fits t path (part_in o i) (into_fits t o i h)

value_fits : (t : IntType) (o : Option Tree) → FitsWhere t o → ValueFits t (value_of o)
value_fits t None h = tt
value_fits t (Some (Element None)) h = tt
value_fits t (Some (Element (Some v))) h = h
value_fits t (Some (Array row)) h = tt

pub read_fits : ReadFits
read_fits t store r h = value_fits t _ (path_fits t r.path (slice_get store r.object) h)

change_fits : (t : IntType) (row : Row) (i : ℕ) (f : Tree → Tree) → ((a : Tree) → TreeFits t a → TreeFits t (f a)) → RowFits t row → RowFits t (change_part row i f)
change_fits t no_parts i f k h = tt
change_fits t (and_part a row) zero f k h = (k a h.0, h.1)
change_fits t (and_part a row) (suc i) f k h = (h.0, change_fits t row i f k h.1)

change_in_fits : (t : IntType) (a : Tree) (i : ℕ) (f : Tree → Tree) → ((b : Tree) → TreeFits t b → TreeFits t (f b)) → TreeFits t a → TreeFits t (change_in a i f)
change_in_fits t (Element v) i f k h = h
change_in_fits t (Array row) i f k h = change_fits t row i f k h

put_at_fits : (t : IntType) (path : List ℕ) (new : Tree) → TreeFits t new → (a : Tree) → TreeFits t a → TreeFits t (put_at path new a)
put_at_fits t [] new hn a h = hn
put_at_fits t (i ∷ path) new hn a h = change_in_fits t a i (put_at path new) (put_at_fits t path new hn) h

put_in_fits : (t : IntType) (store : Store) (x : ℕ) (path : List ℕ) (new : Tree) → FitsWhere t (slice_get store x) → TreeFits t new → FitsWhere t (slice_get (put_in store x path new) x)
put_in_fits t [] x path new h hn = tt
put_in_fits t (a ∷ store) zero path new h hn = put_at_fits t path new hn a h
put_in_fits t (a ∷ store) (suc x) path new h hn = put_in_fits t store x path new h hn

pub write_fits : WriteFits
write_fits t store r new h hn = put_in_fits t store r.object r.path new h hn

with_value_fits : (t : IntType) (v : ℤ) (o : Option Tree) → IsValueOf t v → FitsWhere t o → TreeFits t (with_value v o)
with_value_fits t v None hv h = hv
with_value_fits t v (Some (Element w)) hv h = hv
with_value_fits t v (Some (Array row)) hv h = h

pub set_fits : SetFits
set_fits t store r v h hv =
    write_fits t store r (with_value v (tree_at store r)) h (with_value_fits t v (tree_at store r) hv (path_fits t r.path (slice_get store r.object) h))

mutual
  pub zeroed_fits : (t : IntType) (tree : Tree) → TreeFits t (zeroed tree)
  zeroed_fits t (Element v) = zero_fits t
  zeroed_fits t (Array row) = zeroed_row_fits t row

  zeroed_row_fits : (t : IntType) (row : Row) → RowFits t (zeroed_row row)
  zeroed_row_fits t no_parts = tt
  zeroed_row_fits t (and_part part row) = (zeroed_fits t part, zeroed_row_fits t row)

repeated_fits : (t : IntType) (n : ℕ) (a : Tree) → TreeFits t a → RowFits t (repeated n a)
repeated_fits t zero a h = tt
repeated_fits t (suc n) a h = (h, repeated_fits t n a h)

filled_fits : (t : IntType) (lengths : List ℕ) → TreeFits t (filled None lengths)
filled_fits t [] = tt
filled_fits t (n ∷ lengths) = repeated_fits t n (filled None lengths) (filled_fits t lengths)

pub new_fits : NewFits
new_fits t object = filled_fits t object.lengths

left_true : (a b : Bool) → a && b ≡ true → a ≡ true
left_true true b h = refl
left_true false b h = absurd (cc h)

right_true : (a b : Bool) → a && b ≡ true → b ≡ true
right_true true b h = h
right_true false b h = absurd (cc h)

le_holds : (a b : ℤ) → int_le a b ≡ true → a ≤ℤ b
le_holds a b h = grind (arith, nat_tests, ints, h)

is_value : (t : IntType) (v : ℤ) → is_value_of t v ≡ true → IsValueOf t v
is_value t v h = (le_holds (least t) v (left_true (int_le (least t) v) (int_le v (greatest t)) h), le_holds v (greatest t) (right_true (int_le (least t) v) (int_le v (greatest t)) h))

dropped_fit : (t : IntType) (n : ℕ) (vs : List ℤ) → values_fit t vs ≡ true → values_fit t (drop n vs) ≡ true
dropped_fit t zero vs h = h
dropped_fit t (suc n) [] h = refl
dropped_fit t (suc n) (v ∷ vs) h = dropped_fit t n vs (right_true (is_value_of t v) (values_fit t vs) h)

row_of_fits : (t : IntType) (n size : ℕ) (part : List ℤ → Tree) → ((ws : List ℤ) → values_fit t ws ≡ true → TreeFits t (part ws)) → (vs : List ℤ) → values_fit t vs ≡ true → RowFits t (row_of n size part vs)
row_of_fits t zero size part k vs h = tt
row_of_fits t (suc n) size part k vs h = (k vs h, row_of_fits t n size part k (drop size vs) (dropped_fit t size vs h))

laid_out_fits : (t : IntType) (lengths : List ℕ) (vs : List ℤ) → values_fit t vs ≡ true → TreeFits t (laid_out lengths vs)
laid_out_fits t [] [] h = zero_fits t
laid_out_fits t [] (v ∷ vs) h = is_value t v (left_true (is_value_of t v) (values_fit t vs) h)
laid_out_fits t (n ∷ lengths) vs h = row_of_fits t n (elements_in lengths) (laid_out lengths) (laid_out_fits t lengths) vs h

pub static_fits : StaticFits
static_fits o h = laid_out_fits o.type.element o.type.lengths o.values h
