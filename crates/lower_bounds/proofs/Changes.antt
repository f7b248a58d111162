-- Objects that change, calls and truths keep within their room, and are fine.
use Rattle.std.proofs.Common.{ℕ, ◌+◌, ◌<◌, ◌≤◌, ◌^◌, length, Bool, true, false, arith}
use Rattle.ctypes.specs.declared.types.IntType.{IntType}
use Rattle.ctypes.specs.declared.operators.BinOp.{BinOp}
use Rattle.typing_spec.specs.Program as typed
use Rattle.typing_spec.specs.Program.{Callee, Moment}
use Rattle.tac_code.specs.declared.code.Operand.{Operand}
use Rattle.tac_code.specs.declared.code.Operand.TheVariants as operand
use Rattle.tac_code.specs.declared.code.Target.{Target}
use Rattle.tac_code.specs.declared.code.Target.TheVariants as target
use Rattle.tac_code.specs.Code.{function_at}
use Rattle.lower_correct.specs.Values.{reading_of, Mode, Nowhere, To, If}
use Rattle.lower_correct.specs.Code.{zero_word, Changes, Steps, StepsAside, StepsAfter, StepsBy, Loads, Calls, Truths}
use Rattle.lower_bounds.proofs.Grounds.{Ground, IsNumber, OperandFine, TargetFine, ModeLands, Aims}
use Rattle.lower_bounds.proofs.Stretches.{Within, one, none, join, settle}
use Rattle.lower_bounds.proofs.Operands.{Free, target_fine}
use Rattle.lower_bounds.proofs.Leaves.{ends_within, computes_within}

zero_small : 0 < 2 ^ 32
zero_small = omega arith

one_small : 1 < 2 ^ 32
one_small = omega arith

le : (j t : ℕ) → j < t → j + 1 ≤ t
le j t h = omega (arith, h)

lt : (t b : ℕ) → t + 1 ≤ b → t < b
lt t b h = omega (arith, h)

second : (t b : ℕ) → t + 2 ≤ b → t + 1 < b
second t b h = omega (arith, h)

beyond : (j t b : ℕ) → j ≤ t → t + 2 ≤ b → j + 1 < b
beyond j t b x h = omega (arith, x, h)

module _ (z : Ground) where
  -- ---- objects that change

  pub changes_within : {A : Type 0} (wide : Bool) (o : BinOp) (u of : IntType) (x : ℕ) (a : Operand) (t pc pc2 : ℕ) → IsNumber z x → OperandFine z a → t < z.bound
      → Changes z.code wide o u of x a t pc pc2 → Within z A 1 8 pc pc2
  changes_within true o u of x a t pc pc2 n fa ft i =
      settle z 1 8 (omega arith) (computes_within z o (reading_of of) (target.Object x) (operand.Object x) a t pc pc2 n n fa ft i)
  changes_within false o u of x a t pc pc2 n fa ft i =
      settle z 1 8 (omega arith) (join z
      (computes_within z o (reading_of of) (target.Temporary t) (operand.Object x) a t pc i.0 ft n fa ft i.1)
      (one z _ 96 i.0 pc2 i.2 (omega arith) (λ y. (n, ft))))

  steps_within : {A : Type 0} (wide : Bool) (o : BinOp) (u of : IntType) (x t pc pc2 : ℕ) → IsNumber z x → t < z.bound → Steps z.code wide o u of x t pc pc2 → Within z A 1 8 pc pc2
  steps_within wide o u of x t pc pc2 n ft i = changes_within wide o u of x (operand.Constant 1) t pc pc2 n one_small ft i

  aside_within : (wide : Bool) (o : BinOp) (u of : IntType) (m : Mode) (x t k pc pc2 : ℕ) → IsNumber z x → ModeLands z m t k → Free z t k → t + 2 ≤ z.bound
      → StepsAside z.code wide o u of m x t pc pc2 → Within z (Aims z m pc2) 2 80 pc pc2
  aside_within wide o u of m x t k pc pc2 n l f b i =
      settle z 2 80 (omega arith) (join z (one z _ 104 pc i.0 i.2 (omega arith) (λ y. (lt t z.bound f.0, n)))
      (join z (steps_within wide o u of x (t + 1) i.0 i.1 n (second t z.bound b) i.3)
      (ends_within z m (operand.Temporary t) t k i.1 pc2 l f (lt t z.bound f.0) i.4)))

  after_within : (wide : Bool) (o : BinOp) (u of : IntType) (m : Mode) (x t k pc pc2 : ℕ) → IsNumber z x → ModeLands z m t k → Free z t k → t + 2 ≤ z.bound
      → StepsAfter z.code wide o u of m x t pc pc2 → Within z (Aims z m pc2) 2 80 pc pc2
  after_within wide o u of Nowhere x t k pc pc2 n l f b i = settle z 2 80 (omega arith) (steps_within wide o u of x t pc pc2 n (lt t z.bound f.0) i)
  after_within wide o u of (To (target.Temporary j)) x t k pc pc2 n l f b i =
      settle z 2 80 (omega arith) (join z (one z _ 104 pc i.0 i.1 (omega arith) (λ y. (target_fine z (target.Temporary j) t k f l, n)))
      (steps_within wide o u of x (j + 1) i.0 pc2 n (beyond j t z.bound l b) i.2))
  after_within wide o u of (To (target.Kept j)) x t k pc pc2 n l f b i =
      settle z 2 80 (omega arith) (join z (one z _ 104 pc i.0 i.1 (omega arith) (λ y. (target_fine z (target.Kept j) t k f l, n)))
      (steps_within wide o u of x t i.0 pc2 n (lt t z.bound f.0) i.2))
  after_within wide o u of (To (target.Object y)) x t k pc pc2 n l f b i = aside_within wide o u of (To (target.Object y)) x t k pc pc2 n l f b i
  after_within wide o u of (If sense to) x t k pc pc2 n l f b i = aside_within wide o u of (If sense to) x t k pc pc2 n l f b i

  pub steps_by_within : (moment : Moment) (wide : Bool) (o : BinOp) (u of : IntType) (m : Mode) (x t k pc pc2 : ℕ) → IsNumber z x → ModeLands z m t k → Free z t k → t + 2 ≤ z.bound
      → StepsBy z.code moment wide o u of m x t pc pc2 → Within z (Aims z m pc2) 2 80 pc pc2
  steps_by_within typed.before wide o u of m x t k pc pc2 n l f b i =
      settle z 2 80 (omega arith) (join z (steps_within wide o u of x t pc i.0 n (lt t z.bound f.0) i.1) (ends_within z m (operand.Object x) t k i.0 pc2 l f n i.2))
  steps_by_within typed.after wide o u of m x t k pc pc2 n l f b i = after_within wide o u of m x t k pc pc2 n l f b i

  -- ---- calls

  pub loads_within : {A : Type 0} (c : Bool) (u : IntType) (o : Operand) (t pc pc2 : ℕ) → OperandFine z o → t < z.bound → Loads z.code c u o t pc pc2 → Within z A 1 96 pc pc2
  loads_within false u o t pc pc2 fo ft i = one z _ 96 pc pc2 i (omega arith) (λ a. (ft, fo))
  loads_within true u (operand.Temporary j) t pc pc2 fo ft i = settle z 1 96 (omega arith) (none z pc pc2 i)
  loads_within true u (operand.Kept j) t pc pc2 fo ft i = one z _ 96 pc pc2 i (omega arith) (λ a. (ft, fo))
  loads_within true u (operand.Object j) t pc pc2 fo ft i = one z _ 96 pc pc2 i (omega arith) (λ a. (ft, fo))
  loads_within true u (operand.Parameter j) t pc pc2 fo ft i = one z _ 96 pc pc2 i (omega arith) (λ a. (ft, fo))
  loads_within true u (operand.Constant j) t pc pc2 fo ft i = one z _ 96 pc pc2 i (omega arith) (λ a. (ft, fo))

  abbrev pub CalleeFine : Callee → Type 0
  CalleeFine (typed.function f) = (f < length z.made.functions) × (length (function_at z.made f).parameters ≤ z.bound)
  CalleeFine typed.get_byte = Unit {0}
  CalleeFine typed.put_byte = Unit {0}
  CalleeFine typed.exit = Unit {0}
  CalleeFine (typed.missing name) = Unit {0}

  pub calls_within : (callee : Callee) (m : Mode) (t k pc pc2 : ℕ) → CalleeFine callee → ModeLands z m t k → Free z t k → 0 < z.bound → Calls z.code callee m pc pc2
      → Within z (Aims z m pc2) 1 44 pc pc2
  calls_within (typed.function f) m t k pc pc2 c l fr b i =
      settle z 1 44 (omega arith) (join z (one z _ 120 pc i.0 i.1 (omega arith) (λ a. c)) (ends_within z m (operand.Temporary 0) t k i.0 pc2 l fr b i.2))
  calls_within typed.get_byte m t k pc pc2 c l fr b i =
      settle z 1 44 (omega arith) (join z (one z _ 80 pc i.0 i.1 (omega arith) (λ a. tt)) (ends_within z m (operand.Temporary 0) t k i.0 pc2 l fr b i.2))
  calls_within typed.put_byte m t k pc pc2 c l fr b i =
      settle z 1 44 (omega arith) (join z (one z _ 76 pc i.0 i.1 (omega arith) (λ a. tt)) (ends_within z m zero_word t k i.0 pc2 l fr zero_small i.2))
  calls_within typed.exit m t k pc pc2 c l fr b i = one z _ 44 pc pc2 i (omega arith) (λ a. tt)
  calls_within (typed.missing name) m t k pc pc2 c l fr b i = settle z 1 44 (omega arith) (ends_within z m zero_word t k pc pc2 l fr zero_small i)

  -- ---- truths

  pub truths_within : (m : Mode) (g : Target) (pc other pc2 : ℕ) → TargetFine z g → Truths z.code g pc other pc2 → Within z (Aims z m pc2) 1 76 pc pc2
  truths_within m g pc other pc2 fg i =
      settle z 1 76 (omega arith) (join z (one z _ 104 pc i.0 i.1 (omega arith) (λ a. (fg, one_small)))
      (join z (one z _ 124 i.0 other i.2 (omega arith) (λ a. a.0)) (one z _ 104 other pc2 i.3 (omega arith) (λ a. (fg, zero_small)))))
