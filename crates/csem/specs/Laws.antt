-- Laws of the abstract machine, which the layers above use.
use Rattle.std.specs.Prelude.{◌≡◌, ◌⊎◌, ℕ, ◌+◌, List, [], ◌∷◌, ◌++◌, ℤ, Option, Some, None, Bool, true, false, slice_get, IfOk}
use Rattle.ctypes.specs.declared.types.IntType.{IntType}
use Rattle.ctypes.specs.declared.operators.BinOp.{BinOp}
use Rattle.ctypes.specs.Types.{IsValueOf}
use Rattle.ctypes.specs.Arithmetic.{result_type}
use Rattle.tree.specs.declared.expression.PrefixOp.{PrefixOp}
use Rattle.typing_spec.specs.Types.{ObjectType}
use Rattle.typing_spec.specs.Operators.{operated, sign_of, signed_type}
use Rattle.typing_spec.specs.WellTyped.{values_fit}
use Rattle.typing_spec.specs.Program.{Static, Program}
use Rattle.csem.specs.Store.{Tree, Element, Array, Row, no_parts, and_part, Store, Reference, tree_at, value_at, put, set_value, zeroed, set_zeros, indeterminate, static_object}
use Rattle.csem.specs.History.{Entry}
use Rattle.csem.specs.Machine.{State, Ending, Ended, Undefined, TicksUsed, Stops}
use Rattle.csem.specs.Meaning.{cstep, last_of}

-- two numbers that are not the same
abbrev pub IsNot : ℕ → ℕ → Type 0
IsNot m n = m ≡ n → ⊥

-- ---- the clock

-- the first history is a suffix of the second
abbrev pub Grows : List Entry → List Entry → Type 0
Grows h h2 = (newer : List Entry) × (h2 ≡ newer ++ h)

-- with more ticks the history of a run is that of fewer ticks, perhaps with newer entries
abbrev pub HistoryGrows : Type 0
HistoryGrows = (n k : ℕ) (p : Program) (input : List ℕ) → Grows (last_of (cstep n p input)).history (last_of (cstep (k + n) p input)).history

-- a run that has ended with a status or at undefined behaviour stays so, in the same state, with the ticks that are left
abbrev pub with_more_ticks : ℕ → State → State
with_more_ticks k s = record s { clock = k + s.clock }

-- a status or undefined behaviour, and not the clock
abbrev pub is_final : Ending → Bool
is_final (Ended status) = true
is_final (Undefined act at) = true
is_final TicksUsed = false

abbrev pub EndedStays : Type 0
EndedStays = (n k : ℕ) (p : Program) (input : List ℕ) (e : Ending) (s : State) → is_final e ≡ true → cstep n p input ≡ Stops e s →
    cstep (k + n) p input ≡ Stops e (with_more_ticks k s)

-- ---- the store

-- an object that is not the one written to keeps its value, and each of its parts
abbrev pub OtherObjectStays : Type 0
OtherObjectStays = (store : Store) (written read : Reference) (new : Tree) → IsNot written.object read.object →
    tree_at (put store written new) read ≡ tree_at store read

-- paths part where they have different subscripts at one place, after equal ones
abbrev pub Parts : List ℕ → List ℕ → Type 0
Parts [] path = ⊥
Parts (i ∷ path) [] = ⊥
Parts (i ∷ path) (j ∷ path2) = IsNot i j ⊎ ((i ≡ j) × Parts path path2)

-- and so does another part of the same object
abbrev pub OtherPartStays : Type 0
OtherPartStays = (store : Store) (written read : Reference) (new : Tree) → Parts written.path read.path →
    tree_at (put store written new) read ≡ tree_at store read

-- a tree written where there is one is read there
abbrev pub WrittenIsRead : Type 0
WrittenIsRead = (store : Store) (r : Reference) (old new : Tree) → tree_at store r ≡ Some old → tree_at (put store r new) r ≡ Some new

-- what is written to is no array's place: an array keeps its lengths
abbrev pub ArrayStays : Type 0
ArrayStays = (store : Store) (r : Reference) (row : Row) (v : ℤ) → tree_at store r ≡ Some (Array row) → set_value store r v ≡ store

-- an element that becomes v is the tree of v in its place
abbrev pub ElementIsSet : Type 0
ElementIsSet = (store : Store) (r : Reference) (w : Option ℤ) (v : ℤ) → tree_at store r ≡ Some (Element w) → set_value store r v ≡ put store r (Element (Some v))

abbrev pub ZerosAreSet : Type 0
ZerosAreSet = (store : Store) (r : Reference) (tree : Tree) → tree_at store r ≡ Some tree → set_zeros store r ≡ put store r (zeroed tree)

-- where there is nothing, nothing changes
abbrev pub NothingIsPut : Type 0
NothingIsPut = (store : Store) (r : Reference) (new : Tree) → tree_at store r ≡ None → put store r new ≡ store

-- ---- values within their types (6.2.6.1p5 would let others be trap representations)

-- the result of an operator is a value of its result type, whatever its operands are
abbrev pub OperationFits : Type 0
OperationFits = (op : BinOp) (t : IntType) (a b : ℤ) → IfOk (operated op t a b) (λ v. IsValueOf (result_type op t) v)

abbrev pub SignFits : Type 0
SignFits = (op : PrefixOp) (t : IntType) (a : ℤ) → IfOk (sign_of op t a) (λ v. IsValueOf (signed_type op t) v)

-- each element that has a value has one of type t
abbrev mutual
  pub TreeFits : IntType → Tree → Type 0
  TreeFits t (Element None) = Unit {0}
  TreeFits t (Element (Some v)) = IsValueOf t v
  TreeFits t (Array row) = RowFits t row

  pub RowFits : IntType → Row → Type 0
  RowFits t no_parts = Unit {0}
  RowFits t (and_part part row) = TreeFits t part × RowFits t row

abbrev pub FitsWhere : IntType → Option Tree → Type 0
FitsWhere t None = Unit {0}
FitsWhere t (Some tree) = TreeFits t tree

abbrev pub ValueFits : IntType → Option ℤ → Type 0
ValueFits t None = Unit {0}
ValueFits t (Some v) = IsValueOf t v

-- an object each of whose elements, if it has a value, has one of a type gives values of that type only, and keeps to it when such a tree is put in it
abbrev pub ReadFits : Type 0
ReadFits = (t : IntType) (store : Store) (r : Reference) → FitsWhere t (slice_get store r.object) → ValueFits t (value_at store r)

abbrev pub WriteFits : Type 0
WriteFits = (t : IntType) (store : Store) (r : Reference) (new : Tree) → FitsWhere t (slice_get store r.object) → TreeFits t new →
    FitsWhere t (slice_get (put store r new) r.object)

abbrev pub SetFits : Type 0
SetFits = (t : IntType) (store : Store) (r : Reference) (v : ℤ) → FitsWhere t (slice_get store r.object) → IsValueOf t v →
    FitsWhere t (slice_get (set_value store r v) r.object)

-- a new object fits every type, and a static object of a typed program its own
abbrev pub NewFits : Type 0
NewFits = (t : IntType) (object : ObjectType) → TreeFits t (indeterminate object)

abbrev pub StaticFits : Type 0
StaticFits = (o : Static) → values_fit o.type.element o.values ≡ true → TreeFits o.type.element (static_object o)
