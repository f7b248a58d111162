-- Judgements on expressions and operators.
use Rattle.std.specs.Prelude.{◌≡◌, ℕ, ℤ, List, ◌∷◌, Option, Some, None, Bool, true, false, Contains, Result, Ok, Err}
use Rattle.srcset.specs.declared.refusal.Pos.{Pos}
use Rattle.ctypes.specs.declared.types.IntType.{IntType}
use Rattle.ctypes.specs.declared.operators.BinOp.{BinOp}
use Rattle.ctypes.specs.declared.operators.Undef.{Undef}
use Rattle.ctypes.specs.Types.{truth, converted}
use Rattle.ctypes.specs.Arithmetic.{computed, in_range}
use Rattle.tree.specs.declared.expression.PrefixOp.{PrefixOp}
use Rattle.typing_spec.specs.Operators.{operated, right_operand, sign_of}
use Rattle.typing_spec.specs.Program.{Value}
use Rattle.csem.specs.Store.{Reference, tree_at, length_of}
use Rattle.csem.specs.Machine.{State, subscripted}
use Rattle.csem.specs.Expressions.{evaluate}
use Rattle.csem.specs.Meaning.{calling}
use Rattle.verify_logic.specs.declared.abstract_values.Interval.{Interval}
use Rattle.verify_logic.specs.declared.abstract_values.AbsValue.{AbsValue}
use Rattle.verify_logic.specs.States.{Known, Frame, In, ValueIs, Reaches, Ends, Refers, LeadsInto}

-- with calls at most d deep, an expression has a value in the interval and leaves the objects in `after`
pub record Evaluates (fr : Frame) (e : Value) (before : Option Known) (i : Interval) (after : Option Known) : Type 0 where
  pub runs : (d : ℕ) (s : State) → Reaches fr before s → Ends fr.listed (evaluate fr.program (calling fr.program d) e s) (λ v s2. In i v × Reaches fr after s2)

abbrev pub either_way : {A : Type 0} → Bool → A → A → A
either_way true a b = a
either_way false a b = b

-- an expression leaves the objects in `on` or `off`, by whether its value is not zero
pub record Tests (fr : Frame) (e : Value) (before on off : Option Known) : Type 0 where
  pub runs : (d : ℕ) (s : State) → Reaches fr before s → Ends fr.listed (evaluate fr.program (calling fr.program d) e s) (λ v s2. Reaches fr (either_way (truth v) on off) s2)

-- ---- operators (6.5.3.3, 6.5.5 to 6.5.12)

-- an operation has a value, which lies in the interval
abbrev pub GivesIn : Interval → Result ℤ Undef → Type 0
GivesIn i (Ok v) = In i v
GivesIn i (Err act) = ⊥

pub record Operates (op : BinOp) (t : IntType) (i j r : Interval) : Type 0 where
  pub gives : (v w : ℤ) → In i v → In j w → GivesIn r (operated op t v w)

pub record Signs (op : PrefixOp) (t : IntType) (i r : Interval) : Type 0 where
  pub gives : (v : ℤ) → In i v → GivesIn r (sign_of op t v)

pub record Converts (t : IntType) (i r : Interval) : Type 0 where
  pub gives : (v : ℤ) → In i v → In r (converted t v)

pub record ConvertsRight (op : BinOp) (t : IntType) (i r : Interval) : Type 0 where
  pub gives : (v : ℤ) → In i v → In r (right_operand op t v)

-- on operands that are converted
pub record Computes (op : BinOp) (t : IntType) (i j r : Interval) : Type 0 where
  pub gives : (v w : ℤ) → In i v → In j w → GivesIn r (computed op t v w)

-- an exact result within a signed type, or one that an unsigned type takes modulo (6.2.5p9, 6.5p5)
pub record Ranges (t : IntType) (i r : Interval) : Type 0 where
  pub gives : (act : Undef) (v : ℤ) → In i v → GivesIn r (in_range act t v v)

-- ---- undefined behaviour at places that are listed

-- an operation has a value in the interval, or stops at a place that is listed
abbrev pub GivesOr : List Pos → Pos → Interval → Result ℤ Undef → Type 0
GivesOr al at i (Ok v) = In i v
GivesOr al at i (Err act) = Contains al at

pub record OperatesAt (fr : Frame) (at : Pos) (op : BinOp) (t : IntType) (i j r : Interval) : Type 0 where
  pub gives : (v w : ℤ) → In i v → In j w → GivesOr fr.listed at r (operated op t v w)

pub record SignsAt (fr : Frame) (at : Pos) (op : PrefixOp) (t : IntType) (i r : Interval) : Type 0 where
  pub gives : (v : ℤ) → In i v → GivesOr fr.listed at r (sign_of op t v)

-- an element that may be indeterminate
abbrev pub ReadsOr : List Pos → Pos → Interval → Option ℤ → Type 0
ReadsOr al at i None = Contains al at
ReadsOr al at i (Some v) = In i v

pub record MayRead (fr : Frame) (at : Pos) (k : AbsValue) : Type 0 where
  pub is : (v : Option ℤ) → ValueIs k v → ReadsOr fr.listed at k.interval v

-- a subscript in the interval leads to a part, or is outside at a place that is listed
pub record Subscripts (fr : Frame) (at : Pos) (i : Interval) (n : ℕ) : Type 0 where
  pub is : (x : ℕ) (rest : List ℕ) (r : Reference) (v : ℤ) (s : State) (o : Option Known) → In i v → length_of (tree_at s.store r) ≡ n → Refers fr x (n ∷ rest) r → Reaches fr o s →
      Ends fr.listed (subscripted at r v s) (λ r2 s2. (Refers fr x rest r2 × LeadsInto r r2 v) × Reaches fr o s2)
