-- Moves, operations, conversions, jumps.
use Rattle.std.proofs.Common.{◌≡◌, ℕ, ◌+◌, ◌^◌, ◌<◌, length, Some, Bool, true, false, Result, Ok, Err, refl, sym, subst, arith}
use Rattle.std.specs.Prelude.{ℤ, pos, if◌then◌else◌}
use Rattle.ctypes.specs.declared.types.IntType.{IntType}
use Rattle.ctypes.specs.declared.types.IntType.TheVariants as ty
use Rattle.ctypes.specs.declared.operators.Undef.{Undef}
use Rattle.rv32.specs.Arithmetic.{compare_of}
use Rattle.typing_spec.specs.Operators.{operated}
use Rattle.tac_code.specs.declared.code.Operand.{Operand}
use Rattle.tac_code.specs.declared.code.Target.{Target}
use Rattle.tac_code.specs.declared.code.Reading.{Reading}
use Rattle.tac_code.specs.declared.code.Operation.{Operation}
use Rattle.tac_code.specs.declared.code.Comparison.{Comparison}
use Rattle.tac_code.specs.declared.code.Instruction.TheVariants as instruction
use Rattle.tac_code.specs.Code.{Program, Function, function_at}
use Rattle.tac_code.specs.Run as tac
use Rattle.tac_code.specs.Run.{State, Value, word, Progress, running, word_for, number_of, word_if_defined, operate, holds, value, word_at, gives, gives_word, ◌>>=◌}
use Rattle.tac_code.specs.Sound.{OperandFits, TargetFits}
use Rattle.frames_code.specs.declared.code.Conversion.{Conversion}
use Rattle.frames_code.specs.declared.code.Conversion.TheVariants as conversion
use Rattle.frames_code.specs.declared.code.Instruction.TheVariants as flat_instruction
use Rattle.frames_code.specs.Code as flat_code
use Rattle.frames_code.specs.Run as flat
use Rattle.frames.specs.Layout.{Starts, layout_of}
use Rattle.frames.specs.Translated.{operand_of, target_of, operation_of, test_of, translated}
use Rattle.frames.proofs.WordsOf.{operations_agree, comparison_is}
use Rattle.frames.proofs.Narrow.{conversions_agree}
use Rattle.frames_correct.specs.Matched.{Matched, Alike, shown}
use Rattle.frames_correct.proofs.Lists.{same_some}
use Rattle.frames_correct.proofs.Values.{word_small, word_known as known, operand_shows, word_shows}
use Rattle.frames_correct.proofs.Targets.{bound, found, xs, goes_to, given}

defined_small : (r : Result ℤ Undef) (w : ℕ) → word_if_defined r ≡ Some w → w < 2 ^ 32
defined_small (Ok v) w e = subst (λ x. x < 2 ^ 32) (same_some (word_for v) w e) (word_small v)
defined_small (Err act) w e = absurd (let z : ⊥ = cc in z)

operate_small : (o : Operation) (r : Reading) (a b w : ℕ) → operate o r a b ≡ Some w → w < 2 ^ 32
operate_small o r a b w e = defined_small (operated (tac.operator_of o) (tac.type_of r) (pos a) (pos b)) w e

module _ (q : Program) (f : flat_code.Program) (t : State) (s : flat.State) (m : Matched q f t s) where
  abbrev the : Function
  the = function_at q t.call.function

  on : s.frame.at + 1 ≡ length the.parameters + (t.call.at + 1)
  on = omega (arith, m.frames.0.at)

  pub does_nothing : (u : Starts) → Alike q f (tac.act q t instruction.Nothing) (flat.act f s (translated u (layout_of the) instruction.Nothing))
  does_nothing u = goes_to q f t s m (t.call.at + 1) (s.frame.at + 1) s.arguments on

  -- a value to a target, where arguments stay
  moves : (d : Target) (x : Operand) → TargetFits the d → OperandFits the x → Alike q f (value t x >>= gives q d t) (flat.act f s (flat_instruction.Move (target_of (layout_of the) d) (operand_of (layout_of the) x)))
  moves d x fd fx =
      let go : flat.Value → flat.Progress = λ v. flat.running (flat.set (target_of (layout_of the) d) v (flat.past s)) in
      bound q f (value t x) (gives q d t) (flat.act f s (flat_instruction.Move (target_of (layout_of the) d) (operand_of (layout_of the) x))) (λ v ev.
      let h = operand_shows q f t s m x v fx ev in
      found q f (gives q d t v) (flat.value s (operand_of (layout_of the) x)) (shown (xs q f t s m) v) go h.1 (given q f t s m d v s.arguments fd h.0))

  pub does_move : (u : Starts) (d : Target) (x : Operand) → TargetFits the d → OperandFits the x → Alike q f (tac.act q t (instruction.Move d x)) (flat.act f s (translated u (layout_of the) (instruction.Move d x)))
  does_move u d x fd fx = moves d x fd fx

  pub word_given : (d : Target) (w : ℕ) → TargetFits the d → w < 2 ^ 32 → Alike q f (gives_word q d t w) (flat.gives_word (target_of (layout_of the) d) s w)
  word_given d w fd small = given q f t s m d (word w) flat.unset fd small

  pub does_compute : (u : Starts) (o : Operation) (r : Reading) (d : Target) (x y : Operand) → TargetFits the d → OperandFits the x → OperandFits the y
      → Alike q f (tac.act q t (instruction.Compute o r d x y)) (flat.act f s (translated u (layout_of the) (instruction.Compute o r d x y)))
  does_compute u o r d x y fd fx fy =
      let l = layout_of the in
      let last : ℕ → ℕ → flat.Progress = λ a b. flat.gives_word (target_of l d) s (flat.operate (operation_of o r) a b) in
      let R = flat.act f s (translated u l (instruction.Compute o r d x y)) in
      bound q f (word_at t x) (λ a. word_at t y >>= λ b. operate o r a b >>= gives_word q d t) R (λ a ea.
      let hx = word_shows q f t s m x a fx ea in
      found q f (word_at t y >>= λ b. operate o r a b >>= gives_word q d t) (flat.word_at s (operand_of l x)) a (λ a2. flat.◌>>=◌ (flat.word_at s (operand_of l y)) (last a2)) hx.is
      (bound q f (word_at t y) (λ b. operate o r a b >>= gives_word q d t) (flat.◌>>=◌ (flat.word_at s (operand_of l y)) (last a)) (λ b eb.
      let hy = word_shows q f t s m y b fy eb in
      found q f (operate o r a b >>= gives_word q d t) (flat.word_at s (operand_of l y)) b (last a) hy.is
      (bound q f (operate o r a b) (gives_word q d t) (last a b) (λ w ew.
      subst (λ z. Alike q f (gives_word q d t w) (flat.gives_word (target_of l d) s z)) (operations_agree o r a b w hx.small hy.small ew) (word_given d w fd (operate_small o r a b w ew)))))))

  -- ---- conversions

  narrows : (c : Conversion) (e : IntType) (d : Target) (x : Operand) → ((a : ℕ) → word_for (number_of e a) ≡ flat.converted c a) → TargetFits the d → OperandFits the x
      → Alike q f (tac.act q t (instruction.Convert e d x)) (flat.act f s (flat_instruction.Convert c (target_of (layout_of the) d) (operand_of (layout_of the) x)))
  narrows c e d x agree fd fx =
      let l = layout_of the in
      bound q f (word_at t x) (λ a. gives_word q d t (word_for (number_of e a))) (flat.act f s (flat_instruction.Convert c (target_of l d) (operand_of l x))) (λ a ea.
      let hx = word_shows q f t s m x a fx ea in
      found q f (gives_word q d t (word_for (number_of e a))) (flat.word_at s (operand_of l x)) a (λ b. flat.gives_word (target_of l d) s (flat.converted c b)) hx.is
      (subst (λ z. Alike q f (gives_word q d t (word_for (number_of e a))) (flat.gives_word (target_of l d) s z)) (agree a) (word_given d (word_for (number_of e a)) fd (word_small (number_of e a)))))

  -- a conversion that leaves the word
  leaves : (e : IntType) (d : Target) (x : Operand) → ((a : ℕ) → a < 2 ^ 32 → word_for (number_of e a) ≡ a) → TargetFits the d → OperandFits the x
      → Alike q f (tac.act q t (instruction.Convert e d x)) (flat.act f s (flat_instruction.Move (target_of (layout_of the) d) (operand_of (layout_of the) x)))
  leaves e d x agree fd fx =
      let l = layout_of the in
      let go : flat.Value → flat.Progress = λ v. flat.running (flat.set (target_of l d) v (flat.past s)) in
      bound q f (word_at t x) (λ a. gives_word q d t (word_for (number_of e a))) (flat.act f s (flat_instruction.Move (target_of l d) (operand_of l x))) (λ a ea.
      let hx = word_shows q f t s m x a fx ea in
      let h = operand_shows q f t s m x (word a) fx (word_known_at a ea) in
      found q f (gives_word q d t (word_for (number_of e a))) (flat.value s (operand_of l x)) (flat.word a) go h.1
      (subst (λ z. Alike q f (gives_word q d t z) (flat.running (flat.set (target_of l d) (flat.word a) (flat.past s)))) (sym (agree a hx.small)) (given q f t s m d (word a) s.arguments fd hx.small)))
    where
      word_known_at : (a : ℕ) → word_at t x ≡ Some a → value t x ≡ Some (word a)
      word_known_at a ea = known (value t x) a ea

  pub does_convert : (u : Starts) (e : IntType) (d : Target) (x : Operand) → TargetFits the d → OperandFits the x → Alike q f (tac.act q t (instruction.Convert e d x)) (flat.act f s (translated u (layout_of the) (instruction.Convert e d x)))
  does_convert u ty.Bool d x fd fx = narrows conversion.ToTruth ty.Bool d x conversions_agree.to_truth fd fx
  does_convert u ty.Char d x fd fx = narrows conversion.ToByte ty.Char d x conversions_agree.to_char fd fx
  does_convert u ty.SChar d x fd fx = narrows conversion.ToSignedByte ty.SChar d x conversions_agree.to_signed_char fd fx
  does_convert u ty.UChar d x fd fx = narrows conversion.ToByte ty.UChar d x conversions_agree.to_unsigned_char fd fx
  does_convert u ty.Short d x fd fx = narrows conversion.ToSignedHalf ty.Short d x conversions_agree.to_short fd fx
  does_convert u ty.UShort d x fd fx = narrows conversion.ToHalf ty.UShort d x conversions_agree.to_unsigned_short fd fx
  does_convert u ty.Int d x fd fx = leaves ty.Int d x conversions_agree.to_int fd fx
  does_convert u ty.UInt d x fd fx = leaves ty.UInt d x conversions_agree.to_unsigned_int fd fx
  does_convert u ty.Long d x fd fx = leaves ty.Long d x conversions_agree.to_long fd fx
  does_convert u ty.ULong d x fd fx = leaves ty.ULong d x conversions_agree.to_unsigned_long fd fx

  -- ---- jumps

  pub does_jump : (u : Starts) (to : ℕ) → Alike q f (tac.act q t (instruction.Jump to)) (flat.act f s (translated u (layout_of the) (instruction.Jump to)))
  does_jump u to = goes_to q f t s m to (length the.parameters + to) flat.unset refl

  branches : (b : Bool) (to : ℕ) → Alike q f (running (tac.goes_to t (if b then to else t.call.at + 1))) (flat.running (if b then flat.goes_to s (length the.parameters + to) else flat.next s))
  branches true to = goes_to q f t s m to (length the.parameters + to) flat.unset refl
  branches false to = goes_to q f t s m (t.call.at + 1) (s.frame.at + 1) flat.unset on

  pub does_branch : (u : Starts) (c : Comparison) (r : Reading) (x y : Operand) (to : ℕ) → OperandFits the x → OperandFits the y
      → Alike q f (tac.act q t (instruction.Branch c r x y to)) (flat.act f s (translated u (layout_of the) (instruction.Branch c r x y to)))
  does_branch u c r x y to fx fy =
      let l = layout_of the in
      let last : ℕ → ℕ → flat.Progress = λ a b. flat.running (if compare_of (test_of c r) a b then flat.goes_to s (length the.parameters + to) else flat.next s) in
      let gone : ℕ → ℕ → Progress = λ a b. running (tac.goes_to t (if holds c r a b then to else t.call.at + 1)) in
      bound q f (word_at t x) (λ a. word_at t y >>= gone a) (flat.act f s (translated u l (instruction.Branch c r x y to))) (λ a ea.
      let hx = word_shows q f t s m x a fx ea in
      found q f (word_at t y >>= gone a) (flat.word_at s (operand_of l x)) a (λ a2. flat.◌>>=◌ (flat.word_at s (operand_of l y)) (last a2)) hx.is
      (bound q f (word_at t y) (gone a) (flat.◌>>=◌ (flat.word_at s (operand_of l y)) (last a)) (λ b eb.
      let hy = word_shows q f t s m y b fy eb in
      found q f (gone a b) (flat.word_at s (operand_of l y)) b (last a) hy.is
      (subst (λ z. Alike q f (gone a b) (flat.running (if z then flat.goes_to s (length the.parameters + to) else flat.next s))) (comparison_is c r a b hx.small hy.small) (branches (holds c r a b) to)))))
