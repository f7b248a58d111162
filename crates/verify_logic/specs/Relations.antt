-- Consequences of comparisons for their operands (ISO/IEC 9899:2011 6.5.8, 6.5.9).
use Rattle.std.specs.Prelude.{◌≡◌, ℕ, ℤ, ◌<ℤ◌, ◌≤ℤ◌, Bool, true, false, Option, Some, slice_get, Result, Ok, Err}
use Rattle.ctypes.specs.declared.types.IntType.{IntType}
use Rattle.ctypes.specs.declared.operators.BinOp.{BinOp}
use Rattle.ctypes.specs.declared.operators.Undef.{Undef}
use Rattle.ctypes.specs.Types.{truth, converted}
use Rattle.ctypes.specs.Arithmetic.{computed}
use Rattle.typing_spec.specs.Operators.{right_operand}
use Rattle.typing_spec.specs.Program.{Value}
use Rattle.csem.specs.Store.{Store, value_of}
use Rattle.csem.specs.Machine.{State}
use Rattle.csem.specs.Expressions.{evaluate}
use Rattle.csem.specs.Meaning.{calling}
use Rattle.verify_logic.specs.declared.abstract_values.Interval.{Interval}
use Rattle.verify_logic.specs.declared.operands.Operand.{Operand}
use Rattle.verify_logic.specs.declared.operands.Operand.TheVariants.{Number, Object}
use Rattle.verify_logic.specs.declared.operands.Relation.{Relation}
use Rattle.verify_logic.specs.declared.operands.Relation.TheVariants as relation
use Rattle.verify_logic.specs.States.{Known, Frame, In, Reaches, Ends}

abbrev pub Holding : Relation → ℤ → ℤ → Type 0
Holding relation.Less v w = v <ℤ w
Holding relation.AtMost v w = v ≤ℤ w
Holding relation.Same v w = v ≡ w
Holding relation.Other v w = v ≡ w → ⊥

abbrev pub HoldingOf : (swapped : Bool) → Relation → ℤ → ℤ → Type 0
HoldingOf false r v w = Holding r v w
HoldingOf true r v w = Holding r w v

-- where the comparison has a value at all
abbrev pub HasValue : Result ℤ Undef → Type 0
HasValue (Ok v) = Unit {0}
HasValue (Err act) = ⊥

-- where the comparison has this truth, the relation holds
pub record Tells (op : BinOp) (b swapped : Bool) (r : Relation) : Type 0 where
  pub is : (t : IntType) (v w x : ℤ) → computed op t v w ≡ Ok x → truth x ≡ b → HoldingOf swapped r v w
  pub has : (t : IntType) (v w : ℤ) → HasValue (computed op t v w)
  pub right : (t : IntType) (w : ℤ) → right_operand op t w ≡ converted t w

pub record CutsAbove (i : Interval) (top : ℤ) (r : Interval) : Type 0 where
  pub is : (v : ℤ) → In i v → v ≤ℤ top → In r v

pub record CutsBelow (i : Interval) (bottom : ℤ) (r : Interval) : Type 0 where
  pub is : (v : ℤ) → In i v → bottom ≤ℤ v → In r v

-- r contains each value of i that differs from some value of j
pub record Avoids (i j r : Interval) : Type 0 where
  pub is : (v w : ℤ) → In i v → In j w → (v ≡ w → ⊥) → In r v

pub record Narrows (r : Relation) (i j i2 j2 : Interval) : Type 0 where
  pub is : (v w : ℤ) → In i v → In j w → Holding r v w → In i2 v × In j2 w

-- the value of a constant, or of a scalar object
abbrev pub OperandIs : Operand → ℤ → Store → Type 0
OperandIs (Number c) v store = v ≡ c
OperandIs (Object x) v store = value_of (slice_get store x) ≡ Some v

-- an expression that changes nothing gives the value of an operand
pub record Looks (fr : Frame) (e : Value) (o : Option Known) (a : Operand) (i : Interval) : Type 0 where
  pub runs : (d : ℕ) (s : State) → Reaches fr o s → Ends fr.listed (evaluate fr.program (calling fr.program d) e s) (λ v s2. In i v × OperandIs a v s2.store × (s2.store ≡ s.store) × Reaches fr o s2)

-- an operand whose value lies in the interval
pub record Restricts (a : Operand) (i : Interval) (o o2 : Option Known) : Type 0 where
  pub is : (fr : Frame) (s : State) (v : ℤ) → OperandIs a v s.store → In i v → Reaches fr o s → Reaches fr o2 s

pub record RestrictsBoth (a : Operand) (i : Interval) (b : Operand) (j : Interval) (o o2 : Option Known) : Type 0 where
  pub is : (fr : Frame) (s : State) (v w : ℤ) → OperandIs a v s.store → OperandIs b w s.store → In i v → In j w → Reaches fr o s → Reaches fr o2 s

-- a comparison of operands that has this truth
pub record Learns (op : BinOp) (b : Bool) (x : Operand) (i : Interval) (y : Operand) (j : Interval) (o o2 : Option Known) : Type 0 where
  pub is : (fr : Frame) (s : State) (t : IntType) (v w r : ℤ) → In i v → In j w → OperandIs x v s.store → OperandIs y w s.store → computed op t v w ≡ Ok r → truth r ≡ b → Reaches fr o s → Reaches fr o2 s
  pub has : (t : IntType) (v w : ℤ) → HasValue (computed op t v w)
  pub right : (t : IntType) (w : ℤ) → right_operand op t w ≡ converted t w
