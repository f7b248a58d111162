-- Operands and targets are fine.
use Rattle.std.proofs.Common.{◌≡◌, ℕ, ◌+◌, ◌<◌, ◌≤◌, List, [], ◌∷◌, length, Option, Some, None, Bool, true, false, ◌&&◌, ℤ, refl, arith}
use Rattle.std.specs.Prelude.{nat_eq, slice_get}
use Rattle.std.proofs.lemmas.Bool.Decides.{nat_tests}
use Rattle.ctypes.specs.declared.types.IntType.{IntType}
use Rattle.typing_spec.specs.Types.{ObjectType, same_type}
use Rattle.typing_spec.specs.Program as typed
use Rattle.typing_spec.specs.Program.{Place, Value}
use Rattle.typing_spec.specs.Nodes.{type_of_value, type_of_place, object_type}
use Rattle.typing_spec.specs.WellTyped.{is_scalar, some_number, place_is_typed, value_is_typed}
use Rattle.tac_code.specs.declared.code.Operand.{Operand}
use Rattle.tac_code.specs.declared.code.Operand.TheVariants as operand
use Rattle.tac_code.specs.declared.code.Target.{Target}
use Rattle.tac_code.specs.declared.code.Target.TheVariants as target
use Rattle.tac_code.specs.Code.{scalar_type, type_if_scalar}
use Rattle.lower_correct.specs.Values.{object_of}
use Rattle.lower_correct.specs.Values.{rests_in, pending, unless_written, at_rest, constant_of, constant_or, waits_in, free_temporary, free_kept, Mode, Nowhere, To, If, mode_of, target_of}
use Rattle.lower_correct.proofs.Words.{word_small, left_true, right_true, differ}
use Rattle.lower_bounds.proofs.Grounds.{Ground, IsNumber, OperandFine, TargetFine, Stays, Lands, ModeLands, ModeAims}

below : (j t b : ℕ) → j ≤ t → t + 1 ≤ b → j < b
below j t b x y = omega (arith, x, y)

same : (t : ℕ) → t ≤ t
same t = omega arith

-- ---- objects that are no arrays

pub scalar_if : (lengths : List ℕ) (t : IntType) → nat_eq (length lengths) 0 ≡ true → type_if_scalar lengths t ≡ Some t
scalar_if [] t e = refl
scalar_if (n ∷ lengths) t e = absurd (let z : ⊥ = grind (arith, nat_tests) in z)

pub scalar_of : (u : IntType) (o : Option ObjectType) → is_scalar u (object_type o) ≡ true → (t : IntType) × (scalar_type o ≡ Some t)
scalar_of u None e = absurd (differ e)
scalar_of u (Some t) e = (t.element, scalar_if t.lengths t.element (right_true (same_type u t.element) (nat_eq (length t.lengths) 0) e))

module _ (z : Ground) where
  -- a temporary and a slot may be written
  abbrev pub Free : ℕ → ℕ → Type 0
  Free t k = (t + 1 ≤ z.bound) × (k + 1 ≤ z.slots)

  pub operand_fine : (o : Operand) (t k : ℕ) → Free t k → Stays z o t k → OperandFine z o
  operand_fine (operand.Temporary j) t k f s = below j t z.bound s f.0
  operand_fine (operand.Kept j) t k f s = below j k z.slots s f.1
  operand_fine (operand.Object n) t k f s = s
  operand_fine (operand.Parameter n) t k f s = s
  operand_fine (operand.Constant v) t k f s = s

  pub target_fine : (g : Target) (t k : ℕ) → Free t k → Lands z g t k → TargetFine z g
  target_fine (target.Temporary j) t k f s = below j t z.bound s f.0
  target_fine (target.Kept j) t k f s = below j k z.slots s f.1
  target_fine (target.Object n) t k f s = s

  pub target_lands : (m : Mode) (t k : ℕ) → ModeLands z m t k → Lands z (target_of m t) t k
  target_lands Nowhere t k l = same t
  target_lands (To g) t k l = l
  target_lands (If sense to) t k l = same t

  pub mode_lands : (o : Operand) (t k : ℕ) → Stays z o t k → ModeLands z (mode_of o) t k
  mode_lands (operand.Temporary j) t k s = s
  mode_lands (operand.Kept j) t k s = s
  mode_lands (operand.Object n) t k s = tt
  mode_lands (operand.Parameter n) t k s = tt
  mode_lands (operand.Constant v) t k s = tt

  pub mode_aims : (o : Operand) → ModeAims z (mode_of o)
  mode_aims (operand.Temporary j) = tt
  mode_aims (operand.Kept j) = tt
  mode_aims (operand.Object n) = tt
  mode_aims (operand.Parameter n) = tt
  mode_aims (operand.Constant v) = tt

  -- ---- where values wait

  abbrev pub RestsFine : Option ℕ → Type 0
  RestsFine None = Unit {0}
  RestsFine (Some x) = IsNumber z x

  stays_pending : (b : Bool) (t k : ℕ) → Stays z (pending b t k) t k
  stays_pending true t k = same k
  stays_pending false t k = same t

  stays_unless : (b : Bool) (x : ℕ) (o : Operand) (t k : ℕ) → IsNumber z x → Stays z o t k → Stays z (unless_written b x o) t k
  stays_unless true x o t k n s = s
  stays_unless false x o t k n s = n

  stays_rest : (r : Option ℕ) (written : ℕ → Bool) (o : Operand) (t k : ℕ) → RestsFine r → Stays z o t k → Stays z (at_rest r written o) t k
  stays_rest None written o t k f s = s
  stays_rest (Some x) written o t k f s = stays_unless (written x) x o t k f s

  stays_constant : (c : Option ℤ) (o : Operand) (t k : ℕ) → Stays z o t k → Stays z (constant_or c o) t k
  stays_constant None o t k s = s
  stays_constant (Some v) o t k s = word_small v

  pub waits : (e : Value) (written : ℕ → Bool) (b : Bool) (t k : ℕ) → RestsFine (rests_in e) → Stays z (waits_in e written b t k) t k
  waits e written b t k f =
      stays_constant (constant_of e) (at_rest (rests_in e) written (pending b t k)) t k
      (stays_rest (rests_in e) written (pending b t k) t k f (stays_pending b t k))

  pub more_temporaries : (o : Operand) (t : ℕ) → free_temporary o t ≤ t + 1
  more_temporaries (operand.Temporary j) t = same (t + 1)
  more_temporaries (operand.Kept j) t = omega arith
  more_temporaries (operand.Object n) t = omega arith
  more_temporaries (operand.Parameter n) t = omega arith
  more_temporaries (operand.Constant v) t = omega arith

  pub more_kept : (o : Operand) (k : ℕ) → free_kept o k ≤ k + 1
  more_kept (operand.Kept j) k = same (k + 1)
  more_kept (operand.Temporary j) k = omega arith
  more_kept (operand.Object n) k = omega arith
  more_kept (operand.Parameter n) k = omega arith
  more_kept (operand.Constant v) k = omega arith

  -- ---- places of typed programs

  pub place_fine : (u : IntType) (place : Place) → is_scalar u (type_of_place z.source z.function place) ≡ true → RestsFine (object_of place)
  place_fine u (typed.named at (typed.automatic n)) e = scalar_of u (slice_get z.function.objects n) e
  place_fine u (typed.named at (typed.literal n)) e = tt
  place_fine u (typed.named at (typed.static n)) e = tt
  place_fine u (typed.named at (typed.parameter n)) e = tt
  place_fine u (typed.element at array index) e = tt

  abbrev V : Value → Bool
  V e = value_is_typed z.source z.function e

  abbrev P : Place → Bool
  P place = place_is_typed z.source z.function place

  abbrev S : IntType → Place → Bool
  S u place = is_scalar u (type_of_place z.source z.function place)

  pub read_fine : (u : IntType) (place : Place) → (P place && S u place) ≡ true → RestsFine (object_of place)
  read_fine u place h = place_fine u place (right_true (P place) (S u place) h)

  pub write_fine : (u : IntType) (place : Place) (b : Bool) → (P place && (S u place && b)) ≡ true → RestsFine (object_of place)
  write_fine u place b h = place_fine u place (left_true (S u place) b (right_true (P place) (S u place && b) h))

  pub rests_fine : (e : Value) → value_is_typed z.source z.function e ≡ true → RestsFine (rests_in e)
  rests_fine (typed.constant t v) h = tt
  rests_fine (typed.read u place) h = read_fine u place h
  rests_fine (typed.assigned at u place e) h = write_fine u place (V e && some_number (type_of_value e)) h
  rests_fine (typed.compound at o u of place e) h = write_fine u place (V e && some_number (type_of_value e)) h
  rests_fine (typed.stepped at typed.before o u of place) h = read_fine u place h
  rests_fine (typed.stepped at typed.after o u of place) h = tt
  rests_fine (typed.unary at o u e) h = tt
  rests_fine (typed.binary at o u a b) h = tt
  rests_fine (typed.both_true a b) h = tt
  rests_fine (typed.one_true a b) h = tt
  rests_fine (typed.chosen u c a b) h = tt
  rests_fine (typed.sequence a b) h = tt
  rests_fine (typed.cast u e) h = tt
  rests_fine (typed.discarded e) h = tt
  rests_fine (typed.call at callee result used args) h = tt
