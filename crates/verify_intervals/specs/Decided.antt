-- Relations and truth values that intervals decide.
use Rattle.std.specs.Prelude.{◌≡◌, ℤ, Bool, not, Ok}
use Rattle.ctypes.specs.declared.types.IntType.{IntType}
use Rattle.ctypes.specs.declared.operators.BinOp.{BinOp}
use Rattle.ctypes.specs.Types.{truth, of_truth}
use Rattle.ctypes.specs.Arithmetic.{computed}
use Rattle.verify_logic.specs.declared.abstract_values.Interval.{Interval}
use Rattle.verify_logic.specs.declared.operands.Relation.{Relation}
use Rattle.verify_logic.specs.States.{In}
use Rattle.verify_logic.specs.Relations.{Holding}

-- no two numbers of the intervals are so related
pub record Refutes (r : Relation) (i j : Interval) : Type 0 where
  pub is : (v w : ℤ) → In i v → In j w → Holding r v w → ⊥

-- a comparison of numbers of the intervals never has this truth
pub record Never (op : BinOp) (b : Bool) (i j : Interval) : Type 0 where
  pub is : (t : IntType) (v w x : ℤ) → In i v → In j w → computed op t v w ≡ Ok x → truth x ≡ b → ⊥

-- the interval holds 1 where a number is zero, and 0 where it is not
pub record Negates (i r : Interval) : Type 0 where
  pub is : (v : ℤ) → In i v → In r (of_truth (not (truth v)))
