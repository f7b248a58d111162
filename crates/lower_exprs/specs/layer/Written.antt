-- The meaning of writing the code of an expression.
use Rattle.std.specs.Prelude.{ℕ, Bool, true, false, ◌||◌, List}
use Rattle.ctypes.specs.declared.types.IntType.{IntType}
use Rattle.ctypes.specs.declared.operators.BinOp.{BinOp}
use Rattle.typing_spec.specs.Program.{Moment, Place, Value, Arguments}
use Rattle.tac_code.specs.declared.code.Operand.TheVariants as operand
use Rattle.tac_code.specs.declared.code.Target.{Target}
use Rattle.tac_code.specs.declared.code.Target.TheVariants as target
use Rattle.tac_code.specs.declared.code.Instruction.{Instruction}
use Rattle.tac_code.specs.declared.code.Instruction.TheVariants as instruction
use Rattle.lower_correct.specs.Values.{calls, keeps, operand_of, free_temporary, Mode, If, mode_of}
use Rattle.lower_correct.specs.Places.{found, free_temporary_at, free_kept_at, cuts}
use Rattle.lower_correct.specs.Code.{One, Ends, Converts, Changes, StepsBy, Gets, Puts, Alters, AltersBy, Finds, Into, Passes, Truths}
use Rattle.lower_ops.specs.declared.modes.Shape.TheVariants as shape
use Rattle.lower_ops.specs.layer.Parts.{shape_of, plus, Wrote}
use Rattle.lower_ops.specs.layer.FormSizes.{ends_size, converts_size, changes_size, steps_by_size, gets_size, puts_size, cuts_for, alters_size, alters_by_size, truths_size}
use Rattle.lower_exprs.specs.layer.Sizes.{rest_shape, place_size, value_size, passes_size}

abbrev pub WroteValue : (size : Place → ℕ) → Value → Mode → (t k : ℕ) → (old new : List Instruction) → Type 0
WroteValue size e m t k old new = Wrote (λ w p q. Into w size e m t k p q) (value_size e (shape_of m)) old new

abbrev pub WrotePasses : (size : Place → ℕ) → Arguments → (t k : ℕ) → (old new : List Instruction) → Type 0
WrotePasses size arguments t k old new = Wrote (λ w p q. Passes w size arguments t k p q) (passes_size arguments) old new

-- the code that finds a place
abbrev pub WroteFinds : (size : Place → ℕ) → Place → Bool → (t k : ℕ) → (old new : List Instruction) → Type 0
WroteFinds size a c t k old new = Wrote (λ w p q. Finds w size a c t k p q) (place_size a) old new

-- && and || where a number is wanted, or nothing
abbrev pub BothNumber : List Instruction → (size : Place → ℕ) → Value → Value → Target → ℕ → ℕ → ℕ → ℕ → Type 0
BothNumber w size a b g t k pc pc2 =
    (p1 p2 p3 other : ℕ) × One w instruction.Nothing pc p1 × Into w size a (If false other) t k p1 p2 × Into w size b (If false other) t k p2 p3
    × Truths w g p3 other pc2

abbrev pub OneNumber : List Instruction → (size : Place → ℕ) → Value → Value → Target → ℕ → ℕ → ℕ → ℕ → Type 0
OneNumber w size a b g t k pc pc2 =
    (p1 p2 here other : ℕ) × One w instruction.Nothing pc p1 × Into w size a (If true here) t k p1 p2 × Into w size b (If false other) t k p2 here
    × Truths w g here other pc2

abbrev pub truth_size : Value → Value → ℕ
truth_size a b = plus 1 (plus (value_size a shape.Jump) (plus (value_size b shape.Jump) truths_size))

-- ---- each of the two cases of an expression that reads or changes a place

abbrev pub WroteReadObject : (x : ℕ) → Mode → (old new : List Instruction) → Type 0
WroteReadObject x m old new =
    Wrote (λ w pc pc2. (p1 : ℕ) × One w instruction.Nothing pc p1 × Ends w m (operand.Object x) p1 pc2) (plus 1 (ends_size (shape_of m))) old new

abbrev pub WroteReadMemory : (size : Place → ℕ) → IntType → Place → Mode → (t k : ℕ) → (old new : List Instruction) → Type 0
WroteReadMemory size u a m t k old new =
    Wrote (λ w pc pc2. (p1 : ℕ) × Finds w size a false t k pc p1 × Gets w u (found a false t k) m t p1 pc2) (plus (place_size a) (gets_size (shape_of m))) old new

abbrev pub WroteAssignedObject : (size : Place → ℕ) → IntType → ℕ → Value → Mode → (t k : ℕ) → (old new : List Instruction) → Type 0
WroteAssignedObject size u x e m t k old new =
    Wrote (λ w pc pc2. (p0 p1 p2 : ℕ) × One w instruction.Nothing pc p0 × One w instruction.Nothing p0 p1
    × Converts w (keeps u e) (λ n a b. Into w size e n t k a b) u (operand_of e t k) (target.Object x) p1 p2 × Ends w m (operand.Object x) p2 pc2)
    (plus 1 (plus 1 (plus (converts_size (keeps u e) (value_size e) (rest_shape e) shape.Object) (ends_size (shape_of m))))) old new

abbrev pub WroteAssignedMemory : (size : Place → ℕ) → IntType → Place → Value → Mode → (t k : ℕ) → (old new : List Instruction) → Type 0
WroteAssignedMemory size u place e m t k old new =
    Wrote (λ w pc pc2. let a = found place (calls e) t k in
    let t2 = free_temporary_at a t in
    let o = operand_of e t2 (free_kept_at a k) in
    (p1 p2 p3 : ℕ) × One w instruction.Nothing pc p1 × Finds w size place (calls e) t k p1 p2 × Into w size e (mode_of o) t2 (free_kept_at a k) p2 p3
    × Puts w (cuts u m || keeps u e) u o a m t2 p3 pc2)
    (plus 1 (plus (place_size place) (plus (value_size e (rest_shape e)) (puts_size (cuts_for u (shape_of m) || keeps u e) (shape_of m))))) old new

abbrev pub WroteCompoundObject : (size : Place → ℕ) → Bool → BinOp → IntType → IntType → ℕ → Value → Mode → (t k : ℕ) → (old new : List Instruction) → Type 0
WroteCompoundObject size wide o u of x e m t k old new =
    Wrote (λ w pc pc2. (p0 p1 p2 p3 : ℕ) × One w instruction.Nothing pc p0 × One w instruction.Nothing p0 p1
    × Into w size e (mode_of (operand_of e t k)) t k p1 p2 × Changes w wide o u of x (operand_of e t k) t p2 p3 × Ends w m (operand.Object x) p3 pc2)
    (plus 1 (plus 1 (plus (value_size e (rest_shape e)) (plus (changes_size wide o) (ends_size (shape_of m)))))) old new

abbrev pub WroteCompoundMemory : (size : Place → ℕ) → BinOp → IntType → IntType → Place → Value → Mode → (t k : ℕ) → (old new : List Instruction) → Type 0
WroteCompoundMemory size o u of place e m t k old new =
    Wrote (λ w pc pc2. let a = found place (calls e) t k in
    let t2 = free_temporary_at a t in
    let b = operand_of e t2 (free_kept_at a k) in
    let j = free_temporary b t2 in
    (p1 p2 p3 p4 : ℕ) × One w instruction.Nothing pc p1 × Finds w size place (calls e) t k p1 p2 × Into w size e (mode_of b) t2 (free_kept_at a k) p2 p3
    × One w (instruction.Load u (target.Temporary j) a) p3 p4 × Alters w o u of b a m j p4 pc2)
    (plus 1 (plus (place_size place) (plus (value_size e (rest_shape e)) (plus 1 (alters_size o u (shape_of m)))))) old new

abbrev pub WroteStepObject : Moment → Bool → BinOp → IntType → IntType → ℕ → Mode → ℕ → (old new : List Instruction) → Type 0
WroteStepObject moment wide o u of x m t old new =
    Wrote (λ w pc pc2. (p0 p1 : ℕ) × One w instruction.Nothing pc p0 × One w instruction.Nothing p0 p1 × StepsBy w moment wide o u of m x t p1 pc2)
    (plus 1 (plus 1 (steps_by_size moment wide o (shape_of m)))) old new

abbrev pub WroteStepMemory : (size : Place → ℕ) → Moment → BinOp → IntType → IntType → Place → Mode → (t k : ℕ) → (old new : List Instruction) → Type 0
WroteStepMemory size moment o u of place m t k old new =
    Wrote (λ w pc pc2. let a = found place false t k in
    let j = free_temporary_at a t in
    (p1 p2 p3 : ℕ) × One w instruction.Nothing pc p1 × Finds w size place false t k p1 p2 × One w (instruction.Load u (target.Temporary j) a) p2 p3
    × AltersBy w moment o u of a m j p3 pc2)
    (plus 1 (plus (place_size place) (plus 1 (alters_by_size moment o u (shape_of m))))) old new
