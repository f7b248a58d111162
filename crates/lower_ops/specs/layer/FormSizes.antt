-- How many instructions the code of a form has.
use Rattle.std.specs.Prelude.{ℕ, Bool, true, false, not, ◌||◌}
use Rattle.ctypes.specs.declared.types.IntType.{IntType}
use Rattle.ctypes.specs.declared.operators.BinOp.{BinOp}
use Rattle.ctypes.specs.declared.operators.BinOp.TheVariants as op
use Rattle.typing_spec.specs.Program as typed
use Rattle.typing_spec.specs.Program.{Callee, Moment}
use Rattle.tac_code.specs.declared.code.Operand.{Operand}
use Rattle.tac_code.specs.declared.code.Operand.TheVariants as operand
use Rattle.tac_code.specs.declared.code.Place.{Place as Spot}
use Rattle.tac_code.specs.declared.code.Place.TheVariants as place
use Rattle.lower_correct.specs.Asked.{is_wide}
use Rattle.lower_correct.specs.Places.{is_truth}
use Rattle.lower_ops.specs.declared.modes.Shape.{Shape}
use Rattle.lower_ops.specs.declared.modes.Shape.TheVariants as shape
use Rattle.lower_ops.specs.layer.Parts.{plus}

abbrev pub ends_size : Shape → ℕ
ends_size shape.Nowhere = 0
ends_size shape.Local = 1
ends_size shape.Object = 1
ends_size shape.Jump = 1

abbrev pub follows_size : Shape → ℕ
follows_size shape.Nowhere = 0
follows_size shape.Local = 0
follows_size shape.Object = 0
follows_size shape.Jump = 1

-- ---- operations

abbrev pub computes_size : BinOp → ℕ
computes_size op.LessEqual = plus 1 1
computes_size op.GreaterEqual = plus 1 1
computes_size o = 1

abbrev pub then_size : BinOp → Shape → ℕ
then_size o s = plus (computes_size o) (follows_size s)

abbrev pub compares_size : BinOp → ℕ
compares_size op.Less = 1
compares_size op.Greater = 1
compares_size op.LessEqual = 1
compares_size op.GreaterEqual = 1
compares_size op.Equal = 1
compares_size op.NotEqual = 1
compares_size o = then_size o shape.Jump

abbrev pub operates_size : BinOp → Shape → ℕ
operates_size o shape.Nowhere = then_size o shape.Nowhere
operates_size o shape.Local = then_size o shape.Local
operates_size o shape.Object = then_size o shape.Object
operates_size o shape.Jump = compares_size o

-- ---- conversions; `size` is that of the expression, r is the shape of its mode until the conversion

abbrev pub converts_size : Bool → (Shape → ℕ) → (r g : Shape) → ℕ
converts_size true size r g = size g
converts_size false size r g = plus (size r) 1

abbrev pub casts_size : Bool → (Shape → ℕ) → (r s : Shape) → ℕ
casts_size true size r s = size s
casts_size false size r s = plus (size r) (plus 1 (follows_size s))

-- ---- objects that change

abbrev pub changes_size : Bool → BinOp → ℕ
changes_size true o = computes_size o
changes_size false o = plus (computes_size o) 1

abbrev pub steps_aside_size : Bool → BinOp → Shape → ℕ
steps_aside_size wide o s = plus 1 (plus (changes_size wide o) (ends_size s))

abbrev pub steps_after_size : Bool → BinOp → Shape → ℕ
steps_after_size wide o shape.Nowhere = changes_size wide o
steps_after_size wide o shape.Local = plus 1 (changes_size wide o)
steps_after_size wide o shape.Object = steps_aside_size wide o shape.Object
steps_after_size wide o shape.Jump = steps_aside_size wide o shape.Jump

abbrev pub steps_by_size : Moment → Bool → BinOp → Shape → ℕ
steps_by_size typed.before wide o s = plus (changes_size wide o) (ends_size s)
steps_by_size typed.after wide o s = steps_after_size wide o s

-- ---- arguments

abbrev pub loads_size : Bool → Operand → ℕ
loads_size false o = 1
loads_size true (operand.Temporary j) = 0
loads_size true o = 1

-- ---- parts of memory

abbrev pub parts_size : Spot → ℕ
parts_size (place.At o) = 1
parts_size (place.Literal n) = plus 1 1
parts_size (place.Static n) = plus 1 1
parts_size (place.Array n) = plus 1 1
parts_size (place.Element n i t) = plus 1 1

abbrev pub gets_size : Shape → ℕ
gets_size s = plus 1 (follows_size s)

abbrev pub puts_size : Bool → Shape → ℕ
puts_size true s = plus 1 (ends_size s)
puts_size false s = plus 1 (plus 1 (ends_size s))

abbrev pub cuts_for : IntType → Shape → Bool
cuts_for u shape.Nowhere = not (is_truth u)
cuts_for u shape.Local = false
cuts_for u shape.Object = false
cuts_for u shape.Jump = false

abbrev pub alters_size : BinOp → IntType → Shape → ℕ
alters_size o u s = plus (computes_size o) (puts_size (cuts_for u s || is_wide u) s)

abbrev pub alters_aside_size : BinOp → IntType → Shape → ℕ
alters_aside_size o u s = plus (computes_size o) (plus (puts_size (cuts_for u shape.Nowhere || is_wide u) shape.Nowhere) (ends_size s))

abbrev pub alters_after_size : BinOp → IntType → Shape → ℕ
alters_after_size o u shape.Nowhere = alters_size o u shape.Nowhere
alters_after_size o u shape.Local = alters_aside_size o u shape.Local
alters_after_size o u shape.Object = alters_aside_size o u shape.Object
alters_after_size o u shape.Jump = alters_aside_size o u shape.Jump

abbrev pub alters_by_size : Moment → BinOp → IntType → Shape → ℕ
alters_by_size typed.before o u s = alters_size o u s
alters_by_size typed.after o u s = alters_after_size o u s

abbrev pub hands_over_size : Spot → ℕ
hands_over_size (place.At o) = loads_size true o
hands_over_size (place.Literal n) = 1
hands_over_size (place.Static n) = 1
hands_over_size (place.Array n) = 1
hands_over_size (place.Element n i t) = 1

-- ---- calls

abbrev pub calls_size : Callee → Shape → ℕ
calls_size (typed.function f) s = plus 1 (ends_size s)
calls_size typed.get_byte s = plus 1 (ends_size s)
calls_size typed.put_byte s = plus 1 (ends_size s)
calls_size typed.exit s = 1
calls_size (typed.missing name) s = ends_size s

abbrev pub truths_size : ℕ
truths_size = plus 1 (plus 1 1)
