-- Temporaries and slots have numbers with room: they are at most the length of the code that is written.
use Rattle.std.proofs.Common.{◌≡◌, ℕ, ◌+◌, ◌≤◌, ◌<◌, Bool, true, false, ℤ, Option, Some, None, List, length, ap, sym, ◌∙◌, subst, arith}
use Rattle.tree.specs.declared.expression.PrefixOp.TheVariants as prefix
use Rattle.typing_spec.specs.Program as typed
use Rattle.typing_spec.specs.Program.{Place, Value, Arguments}
use Rattle.typed_ast.specs.View.{Given, number_given, array_given}
use Rattle.tac_code.specs.declared.code.Operand.{Operand}
use Rattle.tac_code.specs.declared.code.Operand.TheVariants as operand
use Rattle.tac_code.specs.declared.code.Place.{Place as Spot}
use Rattle.tac_code.specs.declared.code.Place.TheVariants as place
use Rattle.tac_code.specs.declared.code.Instruction.{Instruction}
use Rattle.lower_correct.specs.Values.{object_of, rests_in, constant_of, constant_or, at_rest, unless_written, pending, waits_in, arguments_call, arguments_write, free_temporary, free_kept, Mode, mode_of}
use Rattle.lower_correct.specs.Places.{found, free_temporary_at, free_kept_at}
use Rattle.lower_ops.specs.declared.modes.Shape.{Shape}
use Rattle.lower_ops.specs.declared.modes.Shape.TheVariants as shape
use Rattle.lower_ops.specs.layer.Parts.{IsNear, plus, Wrote}
use Rattle.lower_exprs.specs.declared.places.Free.{Free}
use Rattle.lower_exprs.specs.layer.Sizes.{size_on, place_size, value_size}
use Rattle.lower_exprs.specs.inside.Waiting.{Waits}

-- ---- a value and a place have at least one instruction

more : (n m : ℕ) → 1 ≤ n → 1 ≤ plus n m
unfolding plus
more n m h = omega (arith, h)

begins : (m : ℕ) → 1 ≤ plus 1 m
begins m = more 1 m (omega arith)

either_way : (o : Option ℕ) (n m : ℕ) → 1 ≤ n → 1 ≤ m → 1 ≤ size_on o n m
either_way None n m h g = g
either_way (Some x) n m h g = h

pub one_place : (a : Place) → 1 ≤ place_size a
one_place (typed.named at what) = omega arith
one_place (typed.element at array index) = begins _

pub one_value : (e : Value) (s : Shape) → 1 ≤ value_size e s
one_value (typed.constant u v) s = omega arith
one_value (typed.read u a) s = either_way (object_of a) _ _ (begins _) (more _ _ (one_place a))
one_value (typed.assigned at u a e) s = either_way (object_of a) _ _ (begins _) (begins _)
one_value (typed.compound at o u of a e) s = either_way (object_of a) _ _ (begins _) (begins _)
one_value (typed.stepped at moment o u of a) s = either_way (object_of a) _ _ (begins _) (begins _)
one_value (typed.unary at prefix.Plus u e) s = begins _
one_value (typed.unary at prefix.Minus u e) s = begins _
one_value (typed.unary at prefix.Complement u e) s = begins _
one_value (typed.unary at prefix.Not u e) shape.Nowhere = begins _
one_value (typed.unary at prefix.Not u e) shape.Local = begins _
one_value (typed.unary at prefix.Not u e) shape.Object = begins _
one_value (typed.unary at prefix.Not u e) shape.Jump = begins _
one_value (typed.binary at o u a b) s = begins _
one_value (typed.both_true a b) shape.Nowhere = begins _
one_value (typed.both_true a b) shape.Local = begins _
one_value (typed.both_true a b) shape.Object = begins _
one_value (typed.both_true a b) shape.Jump = begins _
one_value (typed.one_true a b) shape.Nowhere = begins _
one_value (typed.one_true a b) shape.Local = begins _
one_value (typed.one_true a b) shape.Object = begins _
one_value (typed.one_true a b) shape.Jump = begins _
one_value (typed.chosen u c a b) s = begins _
one_value (typed.sequence a b) s = begins _
one_value (typed.cast u e) s = begins _
one_value (typed.discarded e) s = begins _
one_value (typed.call at callee result used passed) s = begins _

-- ---- code grows

pub grown_more : {P : List Instruction → ℕ → ℕ → Type 0} {n : ℕ} {old new : List Instruction} → 1 ≤ n → Wrote P n old new → length old + 1 ≤ length new
grown_more h x = omega (arith, h, x.grows)

-- ---- at most one more is free

pub temporary_within : (o : Operand) (t : ℕ) → free_temporary o t ≤ t + 1
temporary_within (operand.Temporary j) t = omega arith
temporary_within (operand.Kept j) t = omega arith
temporary_within (operand.Object x) t = omega arith
temporary_within (operand.Parameter n) t = omega arith
temporary_within (operand.Constant w) t = omega arith

pub kept_within : (o : Operand) (k : ℕ) → free_kept o k ≤ k + 1
kept_within (operand.Temporary j) k = omega arith
kept_within (operand.Kept j) k = omega arith
kept_within (operand.Object x) k = omega arith
kept_within (operand.Parameter n) k = omega arith
kept_within (operand.Constant w) k = omega arith

pub temporary_within_at : (a : Spot) (t : ℕ) → free_temporary_at a t ≤ t + 1
temporary_within_at (place.Literal n) t = omega arith
temporary_within_at (place.Static n) t = omega arith
temporary_within_at (place.Array n) t = omega arith
temporary_within_at (place.Element n i u) t = omega arith
temporary_within_at (place.At o) t = temporary_within o t

pub kept_within_at : (a : Spot) (k : ℕ) → free_kept_at a k ≤ k + 1
kept_within_at (place.Literal n) k = omega arith
kept_within_at (place.Static n) k = omega arith
kept_within_at (place.Array n) k = omega arith
kept_within_at (place.Element n i u) k = omega arith
kept_within_at (place.At o) k = kept_within o k

-- ---- the temporary that a value waits in

near_pending : (b : Bool) (t k : ℕ) → t < 4611686018427387904 → IsNear (mode_of (pending b t k))
near_pending true t k h = tt
near_pending false t k h = h

near_unless : (v : Bool) (x : ℕ) (b : Bool) (t k : ℕ) → t < 4611686018427387904 → IsNear (mode_of (unless_written v x (pending b t k)))
near_unless true x b t k h = near_pending b t k h
near_unless false x b t k h = tt

near_rest : (r : Option ℕ) (w : ℕ → Bool) (b : Bool) (t k : ℕ) → t < 4611686018427387904 → IsNear (mode_of (at_rest r w (pending b t k)))
near_rest None w b t k h = near_pending b t k h
near_rest (Some x) w b t k h = near_unless (w x) x b t k h

near_constant : (c : Option ℤ) (r : Option ℕ) (w : ℕ → Bool) (b : Bool) (t k : ℕ) → t < 4611686018427387904 → IsNear (mode_of (constant_or c (at_rest r w (pending b t k))))
near_constant None r w b t k h = near_rest r w b t k h
near_constant (Some v) r w b t k h = tt

pub near_waits : (e : Value) (w : ℕ → Bool) (b : Bool) (t k : ℕ) → t < 4611686018427387904 → IsNear (mode_of (waits_in e w b t k))
near_waits e w b t k h = near_constant (constant_of e) (rests_in e) w b t k h

-- a mode that was read off the operand that waits
pub near_mode : (e : Value) (w : ℕ → Bool) (b : Bool) (t k : ℕ) (o : Operand) (m : Mode) → o ≡ waits_in e w b t k → m ≡ mode_of o → t < 4611686018427387904 → IsNear m
near_mode e w b t k o m eo em h = subst IsNear (sym (em ∙ ap mode_of eo)) (near_waits e w b t k h)

-- ---- arguments that wait

pub temporary_goes : (size : Place → ℕ) (g : Given) (after : Arguments) (free less : Free) (old new : List Instruction) → Waits size g after free less old new → free.temporary ≤ length old
    → less.temporary ≤ length new
temporary_goes size (number_given u e) after free less old new x h = omega (arith, h, x.0, grown_more (one_value e _) x.2)
temporary_goes size (array_given a) after free less old new x h = omega (arith, h, x.0, grown_more (one_place a) x.2)

pub slot_goes : (size : Place → ℕ) (g : Given) (after : Arguments) (free less : Free) (old new : List Instruction) → Waits size g after free less old new → free.slot ≤ length old
    → less.slot ≤ length new
slot_goes size (number_given u e) after free less old new x h =
    omega (arith, h, x.1, kept_within (waits_in e (arguments_write after) (arguments_call after) free.temporary free.slot) free.slot, grown_more (one_value e _) x.2)
slot_goes size (array_given a) after free less old new x h =
    omega (arith, h, x.1, kept_within_at (found a (arguments_call after) free.temporary free.slot) free.slot, grown_more (one_place a) x.2)
