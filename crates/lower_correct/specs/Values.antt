-- Where values of expressions are, in three-address code: their words, the objects that an expression writes, and whether it calls.
use Rattle.std.specs.Prelude.{ℕ, ◌+◌, Bool, true, false, ◌&&◌, ◌||◌, nat_eq, ℤ, int_le, if◌then◌else◌, Option, Some, None}
use Rattle.ctypes.specs.declared.types.IntType.{IntType}
use Rattle.ctypes.specs.declared.types.IntType.TheVariants as ty
use Rattle.ctypes.specs.declared.operators.BinOp.{BinOp}
use Rattle.ctypes.specs.declared.operators.BinOp.TheVariants as op
use Rattle.ctypes.specs.Types.{least, greatest, is_value_of, signed}
use Rattle.tree.specs.declared.expression.PrefixOp.{PrefixOp}
use Rattle.tree.specs.declared.expression.PrefixOp.TheVariants as prefix
use Rattle.typing_spec.specs.Program as typed
use Rattle.typing_spec.specs.Program.{Place, Value, Arguments}
use Rattle.tac_code.specs.declared.code.Operand.{Operand}
use Rattle.tac_code.specs.declared.code.Operand.TheVariants as operand
use Rattle.tac_code.specs.declared.code.Target.{Target}
use Rattle.tac_code.specs.declared.code.Target.TheVariants as target
use Rattle.tac_code.specs.declared.code.Reading.{Reading}
use Rattle.tac_code.specs.declared.code.Reading.TheVariants as reading
use Rattle.tac_code.specs.Run.{word_for}
use Rattle.lower_wf.specs.Asked.{is_wide}

-- the automatic object that a place is, by its name
abbrev pub object_of : Place → Option ℕ
object_of (typed.named at (typed.automatic n)) = Some n
object_of (typed.named at (typed.literal n)) = None
object_of (typed.named at (typed.static n)) = None
object_of (typed.named at (typed.parameter n)) = None
object_of (typed.element at array index) = None

-- ---- the effects of an expression

-- a call makes all temporaries but its result unset
abbrev mutual
  pub place_calls : Place → Bool
  place_calls (typed.named at what) = false
  place_calls (typed.element at array index) = place_calls array || calls index

  pub calls : Value → Bool
  calls (typed.constant t v) = false
  calls (typed.read t place) = place_calls place
  calls (typed.assigned at t place e) = place_calls place || calls e
  calls (typed.compound at op t of place e) = place_calls place || calls e
  calls (typed.stepped at moment op t of place) = place_calls place
  calls (typed.unary at op t e) = calls e
  calls (typed.binary at op t a b) = calls a || calls b
  calls (typed.both_true a b) = calls a || calls b
  calls (typed.one_true a b) = calls a || calls b
  calls (typed.chosen t c a b) = calls c || (calls a || calls b)
  calls (typed.sequence a b) = calls a || calls b
  calls (typed.cast t e) = calls e
  calls (typed.discarded e) = calls e
  calls (typed.call at callee result used passed) = true

  pub arguments_call : Arguments → Bool
  arguments_call typed.no_arguments = false
  arguments_call (typed.and_number t e more) = calls e || arguments_call more
  arguments_call (typed.and_array array more) = place_calls array || arguments_call more

abbrev pub is_object : Option ℕ → ℕ → Bool
is_object None x = false
is_object (Some y) x = nat_eq y x

-- whether object x of the present call is assigned to; a call assigns to no object of its caller
abbrev mutual
  pub place_writes : Place → ℕ → Bool
  place_writes (typed.named at what) x = false
  place_writes (typed.element at array index) x = place_writes array x || writes index x

  pub writes : Value → ℕ → Bool
  writes (typed.constant t v) x = false
  writes (typed.read t place) x = place_writes place x
  writes (typed.assigned at t place e) x = place_writes place x || (is_object (object_of place) x || writes e x)
  writes (typed.compound at op t of place e) x = place_writes place x || (is_object (object_of place) x || writes e x)
  writes (typed.stepped at moment op t of place) x = place_writes place x || is_object (object_of place) x
  writes (typed.unary at op t e) x = writes e x
  writes (typed.binary at op t a b) x = writes a x || writes b x
  writes (typed.both_true a b) x = writes a x || writes b x
  writes (typed.one_true a b) x = writes a x || writes b x
  writes (typed.chosen t c a b) x = writes c x || (writes a x || writes b x)
  writes (typed.sequence a b) x = writes a x || writes b x
  writes (typed.cast t e) x = writes e x
  writes (typed.discarded e) x = writes e x
  writes (typed.call at callee result used arguments) x = arguments_write arguments x

  pub arguments_write : Arguments → ℕ → Bool
  arguments_write typed.no_arguments x = false
  arguments_write (typed.and_number t e more) x = writes e x || arguments_write more x
  arguments_write (typed.and_array array more) x = place_writes array x || arguments_write more x

abbrev pub writes_none : ℕ → Bool
writes_none x = false

-- the object that has the value after an expression (6.5.16p3)
abbrev pub rests_in : Value → Option ℕ
rests_in (typed.constant t v) = None
rests_in (typed.read t place) = object_of place
rests_in (typed.assigned at t place e) = object_of place
rests_in (typed.compound at op t of place e) = object_of place
rests_in (typed.stepped at typed.before op t of place) = object_of place
rests_in (typed.stepped at typed.after op t of place) = None
rests_in (typed.unary at op t e) = None
rests_in (typed.binary at op t a b) = None
rests_in (typed.both_true a b) = None
rests_in (typed.one_true a b) = None
rests_in (typed.chosen t c a b) = None
rests_in (typed.sequence a b) = None
rests_in (typed.cast t e) = None
rests_in (typed.discarded e) = None
rests_in (typed.call at callee result used passed) = None

-- ---- words that need no conversion

-- a small type that has this value, else its own
abbrev pub smallest : IntType → ℤ → IntType
smallest t v =
    if is_value_of ty.Bool v then ty.Bool else if is_value_of ty.UChar v then ty.UChar else if is_value_of ty.SChar v then ty.SChar
    else if is_value_of ty.UShort v then ty.UShort else if is_value_of ty.Short v then ty.Short else t

-- 6.5.8p6, 6.5.9p3: comparisons give 0 or 1
abbrev pub computed_extent : BinOp → IntType → IntType
computed_extent op.Less t = ty.Bool
computed_extent op.Greater t = ty.Bool
computed_extent op.LessEqual t = ty.Bool
computed_extent op.GreaterEqual t = ty.Bool
computed_extent op.Equal t = ty.Bool
computed_extent op.NotEqual t = ty.Bool
computed_extent o t = t

abbrev pub signed_extent : PrefixOp → IntType → IntType
signed_extent prefix.Not t = ty.Bool
signed_extent o t = t

abbrev pub or_int : Option IntType → IntType
or_int None = ty.Int
or_int (Some t) = t

-- a type that surely has the value of the expression
abbrev pub extent : Value → IntType
extent (typed.constant t v) = smallest t v
extent (typed.read t place) = t
extent (typed.assigned at t place e) = t
extent (typed.compound at op t of place e) = t
extent (typed.stepped at moment op t of place) = t
extent (typed.unary at op t e) = signed_extent op t
extent (typed.binary at op t a b) = computed_extent op t
extent (typed.both_true a b) = ty.Bool
extent (typed.one_true a b) = ty.Bool
extent (typed.chosen t c a b) = or_int t
extent (typed.sequence a b) = extent b
extent (typed.cast t e) = t
extent (typed.discarded e) = ty.Bool
extent (typed.call at callee result used passed) = or_int result

-- t has each value of u
abbrev pub holds_all : (t u : IntType) → Bool
holds_all t u = int_le (least t) (least u) && int_le (greatest u) (greatest t)

-- conversion to t leaves its word as it is (6.3.1.3): t has 32 bits, or the value
abbrev pub stays_word : IntType → IntType → Bool
stays_word t u = is_wide t || holds_all t u

abbrev pub keeps : IntType → Value → Bool
keeps t e = stays_word t (extent e)

abbrev pub reading_of : IntType → Reading
reading_of t = if signed t then reading.Signed else reading.Unsigned

-- ---- where a value is while others are evaluated

-- over a call in a slot, else in a temporary; t and k are the first ones that are free
abbrev pub pending : Bool → ℕ → ℕ → Operand
pending true t k = operand.Kept k
pending false t k = operand.Temporary t

abbrev pub unless_written : Bool → ℕ → Operand → Operand
unless_written true x o = o
unless_written false x o = operand.Object x

abbrev pub at_rest : Option ℕ → (ℕ → Bool) → Operand → Operand
at_rest None written o = o
at_rest (Some x) written o = unless_written (written x) x o

abbrev pub constant_of : Value → Option ℤ
constant_of (typed.constant t v) = Some v
constant_of e = None

abbrev pub constant_or : Option ℤ → Operand → Operand
constant_or None o = o
constant_or (Some v) o = operand.Constant (word_for v)

-- the code evaluated after it writes some objects, and contains a call, or not. An object that is not written to is read later
abbrev pub waits_in : Value → (written : ℕ → Bool) → (has_calls : Bool) → ℕ → ℕ → Operand
waits_in e written has_calls t k = constant_or (constant_of e) (at_rest (rests_in e) written (pending has_calls t k))

-- where nothing is evaluated after it
abbrev pub operand_of : Value → ℕ → ℕ → Operand
operand_of e t k = waits_in e writes_none false t k

-- the first temporary, and slot, that are free in addition to it
abbrev pub free_temporary : Operand → ℕ → ℕ
free_temporary (operand.Temporary j) t = t + 1
free_temporary o t = t

abbrev pub free_kept : Operand → ℕ → ℕ
free_kept (operand.Kept j) k = k + 1
free_kept o k = k

-- ---- the use of a value: none; it goes to a target; where its truth is `sense` the code jumps to `to`, and goes on otherwise
pub data Mode : Type 0 where
  Nowhere : Mode
  To : (g : Target) → Mode
  If : (sense : Bool) (to : ℕ) → Mode

-- so that it is in this operand
abbrev pub mode_of : Operand → Mode
mode_of (operand.Temporary j) = To (target.Temporary j)
mode_of (operand.Kept j) = To (target.Kept j)
mode_of (operand.Object x) = Nowhere
mode_of (operand.Parameter n) = Nowhere
mode_of (operand.Constant w) = Nowhere

-- where it is put first
abbrev pub target_of : Mode → ℕ → Target
target_of Nowhere t = target.Temporary t
target_of (To g) t = g
target_of (If sense to) t = target.Temporary t
