-- How many instructions the code of expressions has.
use Rattle.std.specs.Prelude.{ℕ, Bool, false, ◌||◌, Option, Some, None}
use Rattle.ctypes.specs.declared.operators.BinOp.TheVariants as op
use Rattle.tree.specs.declared.expression.PrefixOp.TheVariants as prefix
use Rattle.typing_spec.specs.Program as typed
use Rattle.typing_spec.specs.Program.{Place, Value, Arguments}
use Rattle.csem.specs.Expressions.{step_operation}
use Rattle.lower_correct.specs.Asked.{is_wide}
use Rattle.lower_correct.specs.Values.{object_of}
use Rattle.lower_correct.specs.Values.{calls, arguments_call, writes, arguments_write, keeps, waits_in, operand_of, mode_of}
use Rattle.lower_correct.specs.Places.{found}
use Rattle.lower_ops.specs.declared.modes.Shape.{Shape}
use Rattle.lower_ops.specs.declared.modes.Shape.TheVariants as shape
use Rattle.lower_ops.specs.layer.Parts.{shape_of, plus}
use Rattle.lower_ops.specs.layer.FormSizes.{ends_size, then_size, operates_size, changes_size, steps_by_size, loads_size, calls_size, truths_size, converts_size, casts_size, parts_size, gets_size, puts_size, cuts_for, alters_size, alters_by_size, hands_over_size}

-- ---- expressions

-- the shape of a value that waits
abbrev pub wait_shape : Value → (ℕ → Bool) → Bool → Shape
wait_shape e written has_calls = shape_of (mode_of (waits_in e written has_calls 0 0))

abbrev pub rest_shape : Value → Shape
rest_shape e = shape_of (mode_of (operand_of e 0 0))

-- where a place is an object of the call that is an operand, or else lies in memory
abbrev pub size_on : Option ℕ → ℕ → ℕ → ℕ
size_on None n m = m
size_on (Some x) n m = n

abbrev mutual
  pub place_size : Place → ℕ
  place_size (typed.named at what) = 1
  place_size (typed.element at array index) =
      plus 1 (plus (place_size array) (plus (value_size index (rest_shape index)) (parts_size (found array false 0 0))))

  pub value_size : Value → Shape → ℕ
  value_size (typed.constant u v) s = 1
  value_size (typed.read u place) s = size_on (object_of place) (plus 1 (ends_size s)) (plus (place_size place) (gets_size s))
  value_size (typed.assigned at u place e) s =
      size_on (object_of place) (plus 1 (plus 1 (plus (converts_size (keeps u e) (value_size e) (rest_shape e) shape.Object) (ends_size s))))
      (plus 1 (plus (place_size place) (plus (value_size e (rest_shape e)) (puts_size (cuts_for u s || keeps u e) s))))
  value_size (typed.compound at o u of place e) s =
      size_on (object_of place) (plus 1 (plus 1 (plus (value_size e (rest_shape e)) (plus (changes_size (is_wide u) o) (ends_size s)))))
      (plus 1 (plus (place_size place) (plus (value_size e (rest_shape e)) (plus 1 (alters_size o u s)))))
  value_size (typed.stepped at moment o u of place) s =
      size_on (object_of place) (plus 1 (plus 1 (steps_by_size moment (is_wide u) (step_operation o) s)))
      (plus 1 (plus (place_size place) (plus 1 (alters_by_size moment (step_operation o) u s))))
  value_size (typed.unary at prefix.Plus u e) s = plus 1 (value_size e s)
  value_size (typed.unary at prefix.Minus u e) s = plus 1 (plus (value_size e (rest_shape e)) (then_size op.Sub s))
  value_size (typed.unary at prefix.Complement u e) s = plus 1 (plus (value_size e (rest_shape e)) (then_size op.BitXor s))
  value_size (typed.unary at prefix.Not u e) shape.Jump = plus 1 (value_size e shape.Jump)
  value_size (typed.unary at prefix.Not u e) s = plus 1 (plus (value_size e (rest_shape e)) (then_size op.Equal s))
  value_size (typed.binary at o u a b) s =
      plus 1 (plus (value_size a (wait_shape a (writes b) (calls b))) (plus (value_size b (rest_shape b)) (operates_size o s)))
  value_size (typed.both_true a b) shape.Jump = plus 1 (plus (value_size a shape.Jump) (value_size b shape.Jump))
  value_size (typed.both_true a b) s = plus 1 (plus (value_size a shape.Jump) (plus (value_size b shape.Jump) truths_size))
  value_size (typed.one_true a b) shape.Jump = plus 1 (plus (value_size a shape.Jump) (value_size b shape.Jump))
  value_size (typed.one_true a b) s = plus 1 (plus (value_size a shape.Jump) (plus (value_size b shape.Jump) truths_size))
  value_size (typed.chosen u c a b) s = plus 1 (plus (value_size c shape.Jump) (plus (value_size a s) (plus 1 (value_size b s))))
  value_size (typed.sequence a b) s = plus 1 (plus (value_size a shape.Nowhere) (value_size b s))
  value_size (typed.cast u e) s = plus 1 (casts_size (keeps u e) (value_size e) (rest_shape e) s)
  value_size (typed.discarded e) s = plus 1 (plus (value_size e shape.Nowhere) (ends_size s))
  value_size (typed.call at callee result used arguments) s = plus 1 (plus (passes_size arguments) (calls_size callee s))

  pub passes_size : Arguments → ℕ
  passes_size typed.no_arguments = 0
  passes_size (typed.and_number u e more) =
      plus (value_size e (wait_shape e (arguments_write more) (arguments_call more)))
      (plus (passes_size more) (loads_size (keeps u e) (waits_in e (arguments_write more) (arguments_call more) 0 0)))
  passes_size (typed.and_array array more) =
      plus (place_size array) (plus (passes_size more) (hands_over_size (found array (arguments_call more) 0 0)))
