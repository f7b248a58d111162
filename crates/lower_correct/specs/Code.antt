-- The relation of instructions, from position pc up to pc2, to the expression that they are the code of (ISO/IEC 9899:2011 6.5).
--
-- `t` and `k` are the first temporary and the first slot that may be written. Each node's code begins with an instruction of its own,
-- which costs nothing, and so does the element that is assigned to: the abstract machine takes a tick for each. An automatic object that is no array is an
-- operand; a value in memory is found first (`Finds`), and loaded and stored.
use Rattle.std.specs.Prelude.{◌≡◌, ℕ, ◌+◌, ◌-◌, ◌^◌, Bool, true, false, not, ◌||◌, ℤ, List, Option, Some, None, slice_get}
use Rattle.ctypes.specs.declared.types.IntType.{IntType}
use Rattle.ctypes.specs.declared.operators.BinOp.{BinOp}
use Rattle.ctypes.specs.declared.operators.BinOp.TheVariants as op
use Rattle.ctypes.specs.Types.{truth}
use Rattle.tree.specs.declared.expression.PrefixOp.TheVariants as prefix
use Rattle.typing_spec.specs.Program as typed
use Rattle.typing_spec.specs.Program.{Callee, Moment, Place, Value, Arguments}
use Rattle.csem.specs.Machine.{choose}
use Rattle.csem.specs.Expressions.{step_operation}
use Rattle.tac_code.specs.declared.code.Operand.{Operand}
use Rattle.tac_code.specs.declared.code.Operand.TheVariants as operand
use Rattle.tac_code.specs.declared.code.Target.{Target}
use Rattle.tac_code.specs.declared.code.Target.TheVariants as target
use Rattle.tac_code.specs.declared.code.Place.{Place as Spot}
use Rattle.tac_code.specs.declared.code.Place.TheVariants as place
use Rattle.tac_code.specs.declared.code.Reading.{Reading}
use Rattle.tac_code.specs.declared.code.Reading.TheVariants as reading
use Rattle.tac_code.specs.declared.code.Operation.TheVariants as operation
use Rattle.tac_code.specs.declared.code.Comparison.TheVariants as comparison
use Rattle.tac_code.specs.declared.code.Instruction.{Instruction}
use Rattle.tac_code.specs.declared.code.Instruction.TheVariants as instruction
use Rattle.tac_code.specs.Run.{word_for}
use Rattle.lower_correct.specs.Values.{object_of}
use Rattle.lower_wf.specs.Asked.{is_wide}
use Rattle.lower_correct.specs.Values.{calls, arguments_call, writes, arguments_write, keeps, reading_of, waits_in, operand_of, free_temporary, free_kept, Mode, Nowhere, To, If, mode_of, target_of}
use Rattle.lower_correct.specs.Places.{found, target_for, free_temporary_at, free_kept_at, cuts}

-- of a constant, whose truth is known: a jump where it is `sense`
abbrev pub truth_jump : Bool → Bool → ℕ → Instruction
truth_jump true true to = instruction.Jump to
truth_jump false false to = instruction.Jump to
truth_jump true false to = instruction.Nothing
truth_jump false true to = instruction.Nothing

abbrev pub zero_word : Operand
zero_word = operand.Constant 0

-- a jump where the truth of a word is `sense`
abbrev pub test : Bool → Operand → ℕ → Instruction
test true o to = instruction.Branch comparison.NotEqual reading.Signed o zero_word to
test false o to = instruction.Branch comparison.Equal reading.Signed o zero_word to

-- an object of the call that is an operand, or else a value in memory
abbrev pub OnObject : Option ℕ → (ℕ → Type 0) → Type 0 → Type 0
OnObject None P Memory = Memory
OnObject (Some x) P Memory = P x

-- one of two, by a test
abbrev pub Either : Bool → Type 0 → Type 0 → Type 0
Either true A B = A
Either false A B = B

module _ (code : List Instruction) where
  -- instruction i is at pc, and pc2 is after it
  pub record One (i : Instruction) (pc pc2 : ℕ) : Type 0 where
    pub at : slice_get code pc ≡ Some i
    pub next : pc + 1 ≡ pc2

  -- the value is in o: the use of it
  abbrev pub Ends : Mode → Operand → ℕ → ℕ → Type 0
  Ends Nowhere o pc pc2 = pc ≡ pc2
  Ends (To g) o pc pc2 = One (instruction.Move g o) pc pc2
  Ends (If sense to) o pc pc2 = One (test sense o to) pc pc2

  -- the same where it is in the mode's target, of t
  abbrev pub Follows : Mode → ℕ → ℕ → ℕ → Type 0
  Follows Nowhere t pc pc2 = pc ≡ pc2
  Follows (To g) t pc pc2 = pc ≡ pc2
  Follows (If sense to) t pc pc2 = One (test sense (operand.Temporary t) to) pc pc2

  abbrev pub Constantly : Mode → ℤ → ℕ → ℕ → Type 0
  Constantly Nowhere v pc pc2 = One instruction.Nothing pc pc2
  Constantly (To g) v pc pc2 = One (instruction.Move g (operand.Constant (word_for v))) pc pc2
  Constantly (If sense to) v pc pc2 = One (truth_jump (truth v) sense to) pc pc2

  -- ---- operations (6.5.5 to 6.5.12); t is a temporary for intermediate values

  abbrev pub Computes : BinOp → Reading → Target → Operand → Operand → ℕ → ℕ → ℕ → Type 0
  Computes op.Mul r g a b t pc pc2 = One (instruction.Compute operation.Multiply r g a b) pc pc2
  Computes op.Div r g a b t pc pc2 = One (instruction.Compute operation.Divide r g a b) pc pc2
  Computes op.Rem r g a b t pc pc2 = One (instruction.Compute operation.Remainder r g a b) pc pc2
  Computes op.Add r g a b t pc pc2 = One (instruction.Compute operation.Add r g a b) pc pc2
  Computes op.Sub r g a b t pc pc2 = One (instruction.Compute operation.Subtract r g a b) pc pc2
  Computes op.Shl r g a b t pc pc2 = One (instruction.Compute operation.ShiftLeft r g a b) pc pc2
  Computes op.Shr r g a b t pc pc2 = One (instruction.Compute operation.ShiftRight r g a b) pc pc2
  Computes op.Less r g a b t pc pc2 = One (instruction.Compute operation.Less r g a b) pc pc2
  Computes op.Greater r g a b t pc pc2 = One (instruction.Compute operation.Less r g b a) pc pc2
  Computes op.LessEqual r g a b t pc pc2 =
      (p1 : ℕ) × One (instruction.Compute operation.Less r (target.Temporary t) b a) pc p1
      × One (instruction.Compute operation.ExclusiveOr reading.Signed g (operand.Temporary t) (operand.Constant 1)) p1 pc2
  Computes op.GreaterEqual r g a b t pc pc2 =
      (p1 : ℕ) × One (instruction.Compute operation.Less r (target.Temporary t) a b) pc p1
      × One (instruction.Compute operation.ExclusiveOr reading.Signed g (operand.Temporary t) (operand.Constant 1)) p1 pc2
  Computes op.Equal r g a b t pc pc2 = One (instruction.Compute operation.Equal r g a b) pc pc2
  Computes op.NotEqual r g a b t pc pc2 = One (instruction.Compute operation.NotEqual r g a b) pc pc2
  Computes op.BitAnd r g a b t pc pc2 = One (instruction.Compute operation.And r g a b) pc pc2
  Computes op.BitXor r g a b t pc pc2 = One (instruction.Compute operation.ExclusiveOr r g a b) pc pc2
  Computes op.BitOr r g a b t pc pc2 = One (instruction.Compute operation.Or r g a b) pc pc2

  -- an operation, and the use of its value
  abbrev pub Then : BinOp → Reading → Mode → Operand → Operand → ℕ → ℕ → ℕ → Type 0
  Then o r m a b t pc pc2 = (p1 : ℕ) × Computes o r (target_of m t) a b t pc p1 × Follows m t p1 pc2

  -- a comparison that jumps in one
  abbrev pub Compares : BinOp → Reading → Bool → ℕ → Operand → Operand → ℕ → ℕ → ℕ → Type 0
  Compares op.Less r sense to a b t pc pc2 = One (instruction.Branch (choose sense comparison.Less comparison.GreaterEqual) r a b to) pc pc2
  Compares op.Greater r sense to a b t pc pc2 = One (instruction.Branch (choose sense comparison.Less comparison.GreaterEqual) r b a to) pc pc2
  Compares op.LessEqual r sense to a b t pc pc2 = One (instruction.Branch (choose sense comparison.GreaterEqual comparison.Less) r b a to) pc pc2
  Compares op.GreaterEqual r sense to a b t pc pc2 = One (instruction.Branch (choose sense comparison.GreaterEqual comparison.Less) r a b to) pc pc2
  Compares op.Equal r sense to a b t pc pc2 = One (instruction.Branch (choose sense comparison.Equal comparison.NotEqual) r a b to) pc pc2
  Compares op.NotEqual r sense to a b t pc pc2 = One (instruction.Branch (choose sense comparison.NotEqual comparison.Equal) r a b to) pc pc2
  Compares o r sense to a b t pc pc2 = Then o r (If sense to) a b t pc pc2

  abbrev pub Operates : BinOp → Reading → Mode → Operand → Operand → ℕ → ℕ → ℕ → Type 0
  Operates o r Nowhere a b t pc pc2 = Then o r Nowhere a b t pc pc2
  Operates o r (To g) a b t pc pc2 = Then o r (To g) a b t pc pc2
  Operates o r (If sense to) a b t pc pc2 = Compares o r sense to a b t pc pc2

  -- 6.5.3.3: 0 - a; all bits of a changed
  abbrev pub Negates : IntType → Mode → Operand → ℕ → ℕ → ℕ → Type 0
  Negates u m a t pc pc2 = Then op.Sub (reading_of u) m zero_word a t pc pc2

  abbrev pub Complements : IntType → Mode → Operand → ℕ → ℕ → ℕ → Type 0
  Complements u m a t pc pc2 = Then op.BitXor (reading_of u) m a (operand.Constant (2 ^ 32 - 1)) t pc pc2

  abbrev pub IsZero : Mode → Operand → ℕ → ℕ → ℕ → Type 0
  IsZero m a t pc pc2 = Then op.Equal reading.Signed m a zero_word t pc pc2

  -- ---- conversion (6.3.1), where it changes a word; I is the code of the expression, o where its value is kept till then

  abbrev pub Converts : Bool → (Mode → ℕ → ℕ → Type 0) → IntType → Operand → Target → ℕ → ℕ → Type 0
  Converts true I u o g pc pc2 = I (To g) pc pc2
  Converts false I u o g pc pc2 = (p1 : ℕ) × I (mode_of o) pc p1 × One (instruction.Convert u g o) p1 pc2

  -- a cast
  abbrev pub Casts : Bool → (Mode → ℕ → ℕ → Type 0) → IntType → Operand → Mode → ℕ → ℕ → ℕ → Type 0
  Casts true I u o m t pc pc2 = I m pc pc2
  Casts false I u o m t pc pc2 =
      (p1 p2 : ℕ) × I (mode_of o) pc p1 × One (instruction.Convert u (target_of m t) o) p1 p2 × Follows m t p2 pc2

  -- ---- objects of type u that change (6.5.16.2, 6.5.2.4, 6.5.3.1): a result of another width goes by way of temporary t

  abbrev pub Changes : Bool → BinOp → IntType → IntType → ℕ → Operand → ℕ → ℕ → ℕ → Type 0
  Changes true o u of x a t pc pc2 = Computes o (reading_of of) (target.Object x) (operand.Object x) a t pc pc2
  Changes false o u of x a t pc pc2 =
      (p1 : ℕ) × Computes o (reading_of of) (target.Temporary t) (operand.Object x) a t pc p1
      × One (instruction.Convert u (target.Object x) (operand.Temporary t)) p1 pc2

  abbrev pub Steps : Bool → BinOp → IntType → IntType → ℕ → ℕ → ℕ → ℕ → Type 0
  Steps wide o u of x t pc pc2 = Changes wide o u of x (operand.Constant 1) t pc pc2

  -- the old value by way of temporary t
  abbrev pub StepsAside : Bool → BinOp → IntType → IntType → Mode → ℕ → ℕ → ℕ → ℕ → Type 0
  StepsAside wide o u of m x t pc pc2 =
      (p1 p2 : ℕ) × One (instruction.Move (target.Temporary t) (operand.Object x)) pc p1
      × Steps wide o u of x (t + 1) p1 p2 × Ends m (operand.Temporary t) p2 pc2

  abbrev pub StepsAfter : Bool → BinOp → IntType → IntType → Mode → ℕ → ℕ → ℕ → ℕ → Type 0
  StepsAfter wide o u of Nowhere x t pc pc2 = Steps wide o u of x t pc pc2
  StepsAfter wide o u of (To (target.Temporary j)) x t pc pc2 =
      (p1 : ℕ) × One (instruction.Move (target.Temporary j) (operand.Object x)) pc p1 × Steps wide o u of x (j + 1) p1 pc2
  StepsAfter wide o u of (To (target.Kept j)) x t pc pc2 =
      (p1 : ℕ) × One (instruction.Move (target.Kept j) (operand.Object x)) pc p1 × Steps wide o u of x t p1 pc2
  StepsAfter wide o u of (To (target.Object y)) x t pc pc2 = StepsAside wide o u of (To (target.Object y)) x t pc pc2
  StepsAfter wide o u of (If sense to) x t pc pc2 = StepsAside wide o u of (If sense to) x t pc pc2

  abbrev pub StepsBy : Moment → Bool → BinOp → IntType → IntType → Mode → ℕ → ℕ → ℕ → ℕ → Type 0
  StepsBy typed.before wide o u of m x t pc pc2 = (p1 : ℕ) × Steps wide o u of x t pc p1 × Ends m (operand.Object x) p1 pc2
  StepsBy typed.after wide o u of m x t pc pc2 = StepsAfter wide o u of m x t pc pc2

  -- ---- values in memory (6.5.2.1, 6.5.16): a is where its reference is

  abbrev pub PartsNamed : Spot → Target → Operand → ℕ → ℕ → ℕ → ℕ → Type 0
  PartsNamed a g i size t pc pc2 =
      (p1 : ℕ) × One (instruction.Address (target.Temporary t) a) pc p1 × One (instruction.Part g (operand.Temporary t) i size) p1 pc2

  -- a part of an array, whose reference is put into temporary t where it is no operand yet
  abbrev pub Parts : Spot → Target → Operand → ℕ → ℕ → ℕ → ℕ → Type 0
  Parts (place.At o) g i size t pc pc2 = One (instruction.Part g o i size) pc pc2
  Parts (place.Literal n) g i size t pc pc2 = PartsNamed (place.Literal n) g i size t pc pc2
  Parts (place.Static n) g i size t pc pc2 = PartsNamed (place.Static n) g i size t pc pc2
  Parts (place.Array n) g i size t pc pc2 = PartsNamed (place.Array n) g i size t pc pc2
  Parts (place.Element n j u) g i size t pc pc2 = PartsNamed (place.Element n j u) g i size t pc pc2

  abbrev pub Gets : IntType → Spot → Mode → ℕ → ℕ → ℕ → Type 0
  Gets u a m t pc pc2 = (p1 : ℕ) × One (instruction.Load u (target_of m t) a) pc p1 × Follows m t p1 pc2

  -- o is stored, as it is or converted by way of temporary t, and is the value (6.5.16p3)
  abbrev pub Puts : Bool → IntType → Operand → Spot → Mode → ℕ → ℕ → ℕ → Type 0
  Puts true u o a m t pc pc2 = (p1 : ℕ) × One (instruction.Store u o a) pc p1 × Ends m o p1 pc2
  Puts false u o a m t pc pc2 =
      (p1 p2 : ℕ) × One (instruction.Convert u (target.Temporary t) o) pc p1 × One (instruction.Store u (operand.Temporary t) a) p1 p2
      × Ends m (operand.Temporary t) p2 pc2

  -- temporary j has the old value, and gets the result
  abbrev pub Alters : BinOp → IntType → IntType → Operand → Spot → Mode → ℕ → ℕ → ℕ → Type 0
  Alters o u of b a m j pc pc2 =
      (p1 : ℕ) × Computes o (reading_of of) (target.Temporary j) (operand.Temporary j) b j pc p1
      × Puts (cuts u m || is_wide u) u (operand.Temporary j) a m j p1 pc2

  -- the same with the old value kept, which is the value
  abbrev pub AltersAside : BinOp → IntType → IntType → Spot → Mode → ℕ → ℕ → ℕ → Type 0
  AltersAside o u of a m j pc pc2 =
      (p1 p2 : ℕ) × Computes o (reading_of of) (target.Temporary (j + 1)) (operand.Temporary j) (operand.Constant 1) (j + 1) pc p1
      × Puts (cuts u Nowhere || is_wide u) u (operand.Temporary (j + 1)) a Nowhere (j + 1) p1 p2 × Ends m (operand.Temporary j) p2 pc2

  abbrev pub AltersBy : Moment → BinOp → IntType → IntType → Spot → Mode → ℕ → ℕ → ℕ → Type 0
  AltersBy typed.before o u of a m j pc pc2 = Alters o u of (operand.Constant 1) a m j pc pc2
  AltersBy typed.after o u of a Nowhere j pc pc2 = Alters o u of (operand.Constant 1) a Nowhere j pc pc2
  AltersBy typed.after o u of a (To g) j pc pc2 = AltersAside o u of a (To g) j pc pc2
  AltersBy typed.after o u of a (If sense to) j pc pc2 = AltersAside o u of a (If sense to) j pc pc2

  -- ---- calls

  -- the reference of an array to temporary t
  abbrev pub HandsOver : Spot → ℕ → ℕ → ℕ → Type 0
  HandsOver (place.At (operand.Temporary j)) t pc pc2 = pc ≡ pc2
  HandsOver (place.At o) t pc pc2 = One (instruction.Move (target.Temporary t) o) pc pc2
  HandsOver a t pc pc2 = One (instruction.Address (target.Temporary t) a) pc pc2

  -- an argument to temporary t, converted to its parameter's type
  abbrev pub Loads : Bool → IntType → Operand → ℕ → ℕ → ℕ → Type 0
  Loads false u o t pc pc2 = One (instruction.Convert u (target.Temporary t) o) pc pc2
  Loads true u (operand.Temporary j) t pc pc2 = pc ≡ pc2
  Loads true u o t pc pc2 = One (instruction.Move (target.Temporary t) o) pc pc2

  abbrev pub Calls : Callee → Mode → ℕ → ℕ → Type 0
  Calls (typed.function f) m pc pc2 = (p1 : ℕ) × One (instruction.Call f) pc p1 × Ends m (operand.Temporary 0) p1 pc2
  Calls typed.get_byte m pc pc2 = (p1 : ℕ) × One instruction.GetByte pc p1 × Ends m (operand.Temporary 0) p1 pc2
  Calls typed.put_byte m pc pc2 = (p1 : ℕ) × One instruction.PutByte pc p1 × Ends m zero_word p1 pc2
  Calls typed.exit m pc pc2 = One instruction.Exit pc pc2
  -- never evaluated; its value would be 0
  Calls (typed.missing name) m pc pc2 = Ends m zero_word pc pc2

  -- the end of a truth that is to be a number: 1 at pc, 0 at `other`
  abbrev pub Truths : Target → ℕ → ℕ → ℕ → Type 0
  Truths g pc other pc2 =
      (p1 : ℕ) × One (instruction.Move g (operand.Constant 1)) pc p1 × One (instruction.Jump pc2) p1 other
      × One (instruction.Move g zero_word) other pc2

  -- `size` has the bytes of each element and row
  module _ (size : Place → ℕ) where
    abbrev mutual
      -- the reference is where `found` says; the code evaluated after it contains a call, or not
      pub Finds : Place → (has_calls : Bool) → ℕ → ℕ → ℕ → ℕ → Type 0
      Finds (typed.named at what) c t k pc pc2 = One instruction.Nothing pc pc2
      Finds (typed.element at array index) c t k pc pc2 =
          let a = found array (calls index) t k in
          let t2 = free_temporary_at a t in
          let i = operand_of index t2 (free_kept_at a k) in
          (p1 p2 p3 : ℕ) × One instruction.Nothing pc p1 × Finds array (calls index) t k p1 p2
          × Into index (mode_of i) t2 (free_kept_at a k) p2 p3
          × Parts a (target_for c t k) i (size (typed.element at array index)) (free_temporary i t2) p3 pc2

      pub Into : Value → Mode → ℕ → ℕ → ℕ → ℕ → Type 0
      Into (typed.constant u v) m t k pc pc2 = Constantly m v pc pc2
      Into (typed.read u place) m t k pc pc2 =
          OnObject (object_of place) (λ x. (p1 : ℕ) × One instruction.Nothing pc p1 × Ends m (operand.Object x) p1 pc2)
          ((p1 : ℕ) × Finds place false t k pc p1 × Gets u (found place false t k) m t p1 pc2)
      Into (typed.assigned at u place e) m t k pc pc2 =
          OnObject (object_of place) (λ x. (p0 p1 p2 : ℕ) × One instruction.Nothing pc p0 × One instruction.Nothing p0 p1
          × Converts (keeps u e) (λ n a b. Into e n t k a b) u (operand_of e t k) (target.Object x) p1 p2
          × Ends m (operand.Object x) p2 pc2)
          (let a = found place (calls e) t k in
          let t2 = free_temporary_at a t in
          let o = operand_of e t2 (free_kept_at a k) in
          (p1 p2 p3 : ℕ) × One instruction.Nothing pc p1 × Finds place (calls e) t k p1 p2 × Into e (mode_of o) t2 (free_kept_at a k) p2 p3
          × Puts (cuts u m || keeps u e) u o a m t2 p3 pc2)
      Into (typed.compound at o u of place e) m t k pc pc2 =
          OnObject (object_of place) (λ x. (p0 p1 p2 p3 : ℕ) × One instruction.Nothing pc p0 × One instruction.Nothing p0 p1
          × Into e (mode_of (operand_of e t k)) t k p1 p2
          × Changes (is_wide u) o u of x (operand_of e t k) t p2 p3 × Ends m (operand.Object x) p3 pc2)
          (let a = found place (calls e) t k in
          let t2 = free_temporary_at a t in
          let b = operand_of e t2 (free_kept_at a k) in
          let j = free_temporary b t2 in
          (p1 p2 p3 p4 : ℕ) × One instruction.Nothing pc p1 × Finds place (calls e) t k p1 p2 × Into e (mode_of b) t2 (free_kept_at a k) p2 p3
          × One (instruction.Load u (target.Temporary j) a) p3 p4 × Alters o u of b a m j p4 pc2)
      Into (typed.stepped at moment o u of place) m t k pc pc2 =
          OnObject (object_of place) (λ x. (p0 p1 : ℕ) × One instruction.Nothing pc p0 × One instruction.Nothing p0 p1
          × StepsBy moment (is_wide u) (step_operation o) u of m x t p1 pc2)
          (let a = found place false t k in
          let j = free_temporary_at a t in
          (p1 p2 p3 : ℕ) × One instruction.Nothing pc p1 × Finds place false t k p1 p2 × One (instruction.Load u (target.Temporary j) a) p2 p3
          × AltersBy moment (step_operation o) u of a m j p3 pc2)
      Into (typed.unary at prefix.Plus u e) m t k pc pc2 = (p1 : ℕ) × One instruction.Nothing pc p1 × Into e m t k p1 pc2
      Into (typed.unary at prefix.Minus u e) m t k pc pc2 =
          (p1 p2 : ℕ) × One instruction.Nothing pc p1 × Into e (mode_of (operand_of e t k)) t k p1 p2 × Negates u m (operand_of e t k) t p2 pc2
      Into (typed.unary at prefix.Complement u e) m t k pc pc2 =
          (p1 p2 : ℕ) × One instruction.Nothing pc p1 × Into e (mode_of (operand_of e t k)) t k p1 p2 × Complements u m (operand_of e t k) t p2 pc2
      Into (typed.unary at prefix.Not u e) (If sense to) t k pc pc2 =
          (p1 : ℕ) × One instruction.Nothing pc p1 × Into e (If (not sense) to) t k p1 pc2
      Into (typed.unary at prefix.Not u e) m t k pc pc2 =
          (p1 p2 : ℕ) × One instruction.Nothing pc p1 × Into e (mode_of (operand_of e t k)) t k p1 p2 × IsZero m (operand_of e t k) t p2 pc2
      -- the left value waits where the right side leaves it
      Into (typed.binary at o u a b) m t k pc pc2 =
          let l = waits_in a (writes b) (calls b) t k in
          let r = operand_of b (free_temporary l t) (free_kept l k) in
          (p1 p2 p3 : ℕ) × One instruction.Nothing pc p1 × Into a (mode_of l) t k p1 p2
          × Into b (mode_of r) (free_temporary l t) (free_kept l k) p2 p3 × Operates o (reading_of u) m l r t p3 pc2
      -- 6.5.13p4, 6.5.14p4: an operand that is not needed is jumped over
      Into (typed.both_true a b) (If sense to) t k pc pc2 =
          (p1 p2 : ℕ) × One instruction.Nothing pc p1 × Into a (If false (choose sense pc2 to)) t k p1 p2 × Into b (If sense to) t k p2 pc2
      Into (typed.both_true a b) m t k pc pc2 =
          (p1 p2 p3 other : ℕ) × One instruction.Nothing pc p1 × Into a (If false other) t k p1 p2 × Into b (If false other) t k p2 p3
          × Truths (target_of m t) p3 other pc2
      Into (typed.one_true a b) (If sense to) t k pc pc2 =
          (p1 p2 : ℕ) × One instruction.Nothing pc p1 × Into a (If true (choose sense to pc2)) t k p1 p2 × Into b (If sense to) t k p2 pc2
      Into (typed.one_true a b) m t k pc pc2 =
          (p1 p2 here other : ℕ) × One instruction.Nothing pc p1 × Into a (If true here) t k p1 p2 × Into b (If false other) t k p2 here
          × Truths (target_of m t) here other pc2
      Into (typed.chosen u c a b) m t k pc pc2 =
          (p1 p2 p3 other : ℕ) × One instruction.Nothing pc p1 × Into c (If false other) t k p1 p2 × Into a m t k p2 p3
          × One (instruction.Jump pc2) p3 other × Into b m t k other pc2
      Into (typed.sequence a b) m t k pc pc2 =
          (p1 p2 : ℕ) × One instruction.Nothing pc p1 × Into a Nowhere t k p1 p2 × Into b m t k p2 pc2
      Into (typed.cast u e) m t k pc pc2 =
          (p1 : ℕ) × One instruction.Nothing pc p1 × Casts (keeps u e) (λ n a b. Into e n t k a b) u (operand_of e t k) m t p1 pc2
      Into (typed.discarded e) m t k pc pc2 =
          (p1 p2 : ℕ) × One instruction.Nothing pc p1 × Into e Nowhere t k p1 p2 × Ends m zero_word p2 pc2
      Into (typed.call at callee result used arguments) m t k pc pc2 =
          (p1 p2 : ℕ) × One instruction.Nothing pc p1 × Passes arguments 0 k p1 p2 × Calls callee m p2 pc2

      -- argument i goes to temporary i, from t on; it waits for those after it
      pub Passes : Arguments → ℕ → ℕ → ℕ → ℕ → Type 0
      Passes typed.no_arguments t k pc pc2 = pc ≡ pc2
      Passes (typed.and_number u e more) t k pc pc2 =
          let o = waits_in e (arguments_write more) (arguments_call more) t k in
          (p1 p2 : ℕ) × Into e (mode_of o) t k pc p1 × Passes more (t + 1) (free_kept o k) p1 p2 × Loads (keeps u e) u o t p2 pc2
      Passes (typed.and_array array more) t k pc pc2 =
          let a = found array (arguments_call more) t k in
          (p1 p2 : ℕ) × Finds array (arguments_call more) t k pc p1 × Passes more (t + 1) (free_kept_at a k) p1 p2 × HandsOver a t p2 pc2
