-- The semantics of three-address code, by a count of steps, over the objects of the abstract machine (ISO/IEC 9899:2011 6.2.4). Reading an operand that was
-- never set, undefined behaviour, a word that is no value of its object's type: the run is stuck, and a stuck run promises nothing.
use Rattle.std.specs.Prelude.{ℕ, zero, suc, ◌+◌, ◌*◌, ◌-◌, ◌%◌, ◌^◌, ◌==◌, ◌&&◌, not, nat_lt, Bool, true, false, if◌then◌else◌, ℤ, pos, int_lt, List, [], ◌∷◌, ◌++◌, map, length, take, drop, slice_get, option_map, Option, Some, None, Result, Ok, Err}
use Rattle.ctypes.specs.declared.types.IntType.{IntType}
use Rattle.ctypes.specs.declared.types.IntType.TheVariants as ty
use Rattle.ctypes.specs.declared.operators.BinOp.{BinOp}
use Rattle.ctypes.specs.declared.operators.BinOp.TheVariants as op
use Rattle.ctypes.specs.declared.operators.Undef.{Undef}
use Rattle.ctypes.specs.Types.{modulo, converted, bytes_of}
use Rattle.csem_events.specs.Events.{Got, GotEnd, Put}
use Rattle.typing_spec.specs.Types.{ObjectType, same_type}
use Rattle.typing_spec.specs.Operators.{operated}
use Rattle.csem.specs.Store.{Tree, Element, Array, Row, no_parts, and_part, Store, Reference, whole, into, tree_at, value_at, put, indeterminate, static_object, literal_object}
use Rattle.csem.specs.History.{Entry, Did, Entered, Left}
use Rattle.csem.specs.Statements.{new_object}
use Rattle.tac_code.specs.declared.code.Operand.{Operand}
use Rattle.tac_code.specs.declared.code.Operand.TheVariants as operand
use Rattle.tac_code.specs.declared.code.Target.{Target}
use Rattle.tac_code.specs.declared.code.Target.TheVariants as target
use Rattle.tac_code.specs.declared.code.Place.{Place}
use Rattle.tac_code.specs.declared.code.Place.TheVariants as place
use Rattle.tac_code.specs.declared.code.Reading.{Reading}
use Rattle.tac_code.specs.declared.code.Reading.TheVariants as reading
use Rattle.tac_code.specs.declared.code.Operation.{Operation}
use Rattle.tac_code.specs.declared.code.Operation.TheVariants as operation
use Rattle.tac_code.specs.declared.code.Comparison.{Comparison}
use Rattle.tac_code.specs.declared.code.Comparison.TheVariants as comparison
use Rattle.tac_code.specs.declared.code.Parameter.{Parameter}
use Rattle.tac_code.specs.declared.code.Parameter.TheVariants as parameter
use Rattle.tac_code.specs.declared.code.Instruction.{Instruction}
use Rattle.tac_code.specs.declared.code.Instruction.TheVariants as instruction
use Rattle.tac_code.specs.Code.{Function, Program, function_at, scalar_type}

-- a word below 2^32, or a reference to an array, a row or an element
pub data Value : Type 0 where
  word : (w : ℕ) → Value
  reference : (r : Reference) → Value

-- none where nothing was set yet
abbrev pub Values : Type 0
Values = ℕ → Option Value

abbrev pub unset : Values
unset k = None

abbrev pub with_at : Values → ℕ → Value → Values
with_at m k x j = if j == k then Some x else m j

-- a call: its function, the number of the instruction where it goes on, its slots, the number of its first object, and the arrays
-- that its array parameters refer to
pub record Call : Type 0 where
  pub function : ℕ
  pub at : ℕ
  pub kept : Values
  pub base : ℕ
  pub arrays : List Reference

-- the call that runs, and its temporaries; the calls that wait, the newest first; the objects that live, the input left, and the history, the newest entry
-- first
pub record State : Type 0 where
  pub call : Call
  pub temporaries : Values
  pub waiting : List Call
  pub store : Store
  pub input : List ℕ
  pub history : List Entry

pub data Progress : Type 0 where
  running : (s : State) → Progress
  ended : (status : ℕ) (input : List ℕ) (history : List Entry) → Progress
  stuck : Progress

-- the functions of the calls that are open, the innermost first
abbrev pub open_calls : State → List ℕ
open_calls s = map (λ c. c.function) (s.call ∷ s.waiting)

infixl 10 ◌>>=◌
abbrev pub ◌>>=◌ : {A : Type 0} → Option A → (A → Progress) → Progress
None >>= go = stuck
(Some x) >>= go = go x

abbrev pub where_true : Bool → Progress → Progress
where_true true go = go
where_true false go = stuck

-- ---- words and numbers

-- the word of a number, and the number of a type that a word represents
abbrev pub word_for : ℤ → ℕ
word_for v = modulo 32 v

abbrev pub number_of : IntType → ℕ → ℤ
number_of t w = converted t (pos w)

-- a word that is the word of a value of t
abbrev pub is_word_of : IntType → ℕ → Bool
is_word_of t w = word_for (number_of t w) == w

-- the number that an element of type t holds when a word is written to it: that of its low bytes, which of _Bool are 0 or 1
abbrev pub held_by : IntType → ℕ → Option ℤ
held_by ty.Bool w = if nat_lt w 2 then Some (pos w) else None
held_by t w = Some (number_of t w)

abbrev pub word_of : Value → Option ℕ
word_of (word w) = Some w
word_of (reference r) = None

abbrev pub word_in : Option Value → Option ℕ
word_in None = None
word_in (Some v) = word_of v

abbrev pub reference_of : Value → Option Reference
reference_of (word w) = None
reference_of (reference r) = Some r

abbrev pub reference_in : Option Value → Option Reference
reference_in None = None
reference_in (Some v) = reference_of v

-- ---- operations (6.5.5 to 6.5.12)

abbrev pub type_of : Reading → IntType
type_of reading.Signed = ty.Int
type_of reading.Unsigned = ty.UInt

abbrev pub operator_of : Operation → BinOp
operator_of operation.Multiply = op.Mul
operator_of operation.Divide = op.Div
operator_of operation.Remainder = op.Rem
operator_of operation.Add = op.Add
operator_of operation.Subtract = op.Sub
operator_of operation.ShiftLeft = op.Shl
operator_of operation.ShiftRight = op.Shr
operator_of operation.And = op.BitAnd
operator_of operation.ExclusiveOr = op.BitXor
operator_of operation.Or = op.BitOr
operator_of operation.Less = op.Less
operator_of operation.Equal = op.Equal
operator_of operation.NotEqual = op.NotEqual

-- none where the operation is undefined
abbrev pub word_if_defined : Result ℤ Undef → Option ℕ
word_if_defined (Ok v) = Some (word_for v)
word_if_defined (Err act) = None

abbrev pub operate : Operation → Reading → ℕ → ℕ → Option ℕ
operate o r a b = word_if_defined (operated (operator_of o) (type_of r) (pos a) (pos b))

abbrev pub less : Reading → ℕ → ℕ → Bool
less r a b = int_lt (number_of (type_of r) a) (number_of (type_of r) b)

abbrev pub holds : Comparison → Reading → ℕ → ℕ → Bool
holds comparison.Equal r a b = a == b
holds comparison.NotEqual r a b = not (a == b)
holds comparison.Less r a b = less r a b
holds comparison.GreaterEqual r a b = not (less r a b)

-- ---- operands and targets

-- object n of the present call
abbrev pub own : State → ℕ → Reference
own s n = whole (s.call.base + n)

abbrev pub own_type : Program → State → ℕ → Option ObjectType
own_type p s n = slice_get (function_at p s.call.function).objects n

abbrev pub value : State → Operand → Option Value
value s (operand.Temporary k) = s.temporaries k
value s (operand.Kept k) = s.call.kept k
value s (operand.Object n) = option_map (λ v. word (word_for v)) (value_at s.store (own s n))
value s (operand.Parameter n) = option_map reference (slice_get s.call.arrays n)
value s (operand.Constant v) = Some (word v)

abbrev pub word_at : State → Operand → Option ℕ
word_at s x = word_in (value s x)

-- on to an instruction, or to the next one
abbrev pub goes_to : State → ℕ → State
goes_to s to = record s { call = record s.call { at = to } }

abbrev pub next : State → State
next s = goes_to s (s.call.at + 1)

abbrev pub with_number : Reference → ℤ → State → State
with_number r v s = record s { store = put s.store r (Element (Some v)) }

abbrev pub gives : Program → Target → State → Value → Progress
gives p (target.Temporary k) s v = running (record (next s) { temporaries = with_at s.temporaries k v })
gives p (target.Kept k) s v = running (record s { call = record s.call { at = s.call.at + 1; kept = with_at s.call.kept k v } })
gives p (target.Object n) s v =
    scalar_type (own_type p s n) >>= λ t. word_of v >>= λ w.
    where_true (is_word_of t w) (running (with_number (own s n) (number_of t w) (next s)))

abbrev pub gives_word : Program → Target → State → ℕ → Progress
gives_word p d s w = gives p d s (word w)

-- ---- objects

-- the types of the elements of the objects that live, in the order of these: string literals, statics, those of the calls, the
-- oldest first
abbrev pub element_types : Program → List Call → List IntType
element_types p [] = map (λ text. ty.Char) p.literals ++ map (λ o. o.type.element) p.statics
element_types p (c ∷ earlier) = element_types p earlier ++ map (λ o. o.element) (function_at p c.function).objects

abbrev pub element_type : Program → State → Reference → Option IntType
element_type p s r = slice_get (element_types p (s.call ∷ s.waiting)) r.object

abbrev pub is_type : IntType → Option IntType → Bool
is_type t None = false
is_type t (Some u) = same_type t u

-- 6.4.5p7: a string literal is not written to
abbrev pub may_write : Program → Reference → Bool
may_write p r = not (nat_lt r.object (length p.literals))

abbrev pub is_element : Option Tree → Bool
is_element None = false
is_element (Some (Element v)) = true
is_element (Some (Array row)) = false

abbrev mutual
  pub elements_of : Tree → ℕ
  elements_of (Element v) = 1
  elements_of (Array row) = elements_of_row row

  pub elements_of_row : Row → ℕ
  elements_of_row no_parts = 0
  elements_of_row (and_part t row) = elements_of t + elements_of_row row

-- ---- elements, counted in memory order (6.5.2.1p3)

-- the subscripts of element i
abbrev mutual
  pub path_of : Tree → ℕ → Option (List ℕ)
  path_of (Element v) zero = Some []
  path_of (Element v) (suc i) = None
  path_of (Array row) i = path_in row 0 i

  pub path_in : Row → (k i : ℕ) → Option (List ℕ)
  path_in no_parts k i = None
  path_in (and_part t row) k i =
      if nat_lt i (elements_of t) then option_map (λ path. k ∷ path) (path_of t i) else path_in row (suc k) (i - elements_of t)

-- the number of the first element of a part
abbrev mutual
  pub first_of : Tree → List ℕ → ℕ
  first_of (Element v) path = 0
  first_of (Array row) [] = 0
  first_of (Array row) (k ∷ path) = first_in row k path

  pub first_in : Row → ℕ → List ℕ → ℕ
  first_in no_parts k path = 0
  first_in (and_part t row) zero path = first_of t path
  first_in (and_part t row) (suc k) path = elements_of t + first_in row k path

-- element i of an object, and the one that is i elements after a reference
abbrev pub element_of : (object : ℕ) → Option Tree → ℕ → Option Reference
element_of x None i = None
element_of x (Some t) i = option_map (λ path. record { object = x; path = path }) (path_of t i)

abbrev pub first_at : Option Tree → List ℕ → ℕ
first_at None path = 0
first_at (Some t) path = first_of t path

abbrev pub element_behind : Store → Reference → ℕ → Option Reference
element_behind store r i = element_of r.object (slice_get store r.object) (first_at (slice_get store r.object) r.path + i)

abbrev pub array_if : Option IntType → Option ObjectType → Reference → Option Reference
array_if scalar None r = None
array_if None (Some t) r = Some r
array_if (Some u) (Some t) r = None

abbrev pub reference_to : Program → State → Place → Option Reference
reference_to p s (place.Literal n) = Some (whole n)
reference_to p s (place.Static n) = Some (whole (length p.literals + n))
reference_to p s (place.Array n) = array_if (scalar_type (own_type p s n)) (own_type p s n) (own s n)
reference_to p s (place.Element n i t) =
    if is_type t (option_map (λ o. o.element) (own_type p s n)) then element_of (s.call.base + n) (slice_get s.store (s.call.base + n)) i else None
reference_to p s (place.At x) = reference_in (value s x)

abbrev pub loaded : Program → State → IntType → Target → Reference → Progress
loaded p s t d r =
    where_true (is_type t (element_type p s r)) (value_at s.store r >>= λ v. gives_word p d s (word_for v))

abbrev pub stored : Program → State → IntType → ℕ → Reference → Progress
stored p s t w r =
    where_true (is_type t (element_type p s r) && (may_write p r && is_element (tree_at s.store r)))
    (held_by t w >>= λ v. running (with_number r v (next s)))

-- 6.5.2.1: the part is one of the array's, and has this many bytes
abbrev pub part : Program → State → Target → Reference → ℕ → Progress
part p s d r size =
    element_type p s r >>= λ t. tree_at s.store r >>= λ tree.
    where_true (bytes_of t * elements_of tree == size) (gives p d s (reference r))

abbrev pub element : Program → State → IntType → Target → Reference → ℕ → Progress
element p s t d r i =
    where_true (is_type t (element_type p s r)) (element_behind s.store r i >>= λ r2. gives p d s (reference r2))

-- k objects of the call from number n on become indeterminate
abbrev pub forgotten : List ObjectType → (base n k : ℕ) → Store → Store
forgotten objects base n zero store = store
forgotten objects base n (suc k) store =
    forgotten objects base (suc n) k (put store (whole (base + n)) (new_object (slice_get objects n)))

-- ---- calls (6.5.2.2, 6.9.1p10)

abbrev pub and_then : {A : Type 0} → Option A → Option (List A) → Option (List A)
and_then None rest = None
and_then (Some x) None = None
and_then (Some x) (Some rest) = Some (x ∷ rest)

-- a parameter that is a number, as an object
abbrev pub number_object : Option IntType → Option ℕ → Option Tree
number_object None w = None
number_object (Some t) None = None
number_object (Some t) (Some w) = if is_word_of t w then Some (Element (Some (number_of t w))) else None

-- from the arguments in temporary k and the later ones
abbrev pub numbers_in : List Parameter → List ObjectType → Values → ℕ → Option (List Tree)
numbers_in [] objects temporaries k = Some []
numbers_in (parameter.Array ∷ more) objects temporaries k = numbers_in more objects temporaries (suc k)
numbers_in (parameter.Number ∷ more) [] temporaries k = None
numbers_in (parameter.Number ∷ more) (o ∷ objects) temporaries k =
    and_then (number_object (scalar_type (Some o)) (word_in (temporaries k))) (numbers_in more objects temporaries (suc k))

abbrev pub arrays_in : List Parameter → Values → ℕ → Option (List Reference)
arrays_in [] temporaries k = Some []
arrays_in (parameter.Number ∷ more) temporaries k = arrays_in more temporaries (suc k)
arrays_in (parameter.Array ∷ more) temporaries k = and_then (reference_in (temporaries k)) (arrays_in more temporaries (suc k))

-- what the history has of the arguments in temporary k and the later ones
abbrev pub words_in : List Parameter → Values → ℕ → List (Option ℕ)
words_in [] temporaries k = []
words_in (parameter.Number ∷ more) temporaries k = word_in (temporaries k) ∷ words_in more temporaries (suc k)
words_in (parameter.Array ∷ more) temporaries k = None ∷ words_in more temporaries (suc k)

abbrev pub begun : State → ℕ → Function → List Tree → List Reference → Progress
begun s f g numbers arrays = running (record s {
  call = record { function = f; at = 0; kept = unset; base = length s.store; arrays = arrays };
  temporaries = unset;
  waiting = record s.call { at = s.call.at + 1 } ∷ s.waiting;
  store = s.store ++ (numbers ++ map indeterminate (drop (length numbers) g.objects));
  history = Entered f (words_in g.parameters s.temporaries 0) ∷ s.history;
})

abbrev pub entered : Program → State → ℕ → Progress
entered p s f =
    slice_get p.functions f >>= λ g.
    numbers_in g.parameters g.objects s.temporaries 0 >>= λ numbers.
    arrays_in g.parameters s.temporaries 0 >>= λ arrays. begun s f g numbers arrays

-- all temporaries but the result, which is a number, are lost in a call
abbrev pub result_alone : Option ℕ → Values
result_alone w k = if k == 0 then option_map word w else None

-- what a function with this type of result returns, if temporary 0 has this word or none
abbrev pub result_in : Option IntType → Option ℕ → Option (Option ℕ)
result_in None w = Some None
result_in (Some t) None = Some None
result_in (Some t) (Some w) = if is_word_of t w then Some (Some w) else None

-- the objects of the call end (6.2.4p6); main's result is the status (5.1.2.2.3)
abbrev pub returned : State → List Call → (result : Option ℕ) → Progress
returned s [] result = result >>= λ w. ended (w % 2 ^ 8) s.input (Left (Some w) ∷ s.history)
returned s (c ∷ waiting) result = running (record s {
  call = c;
  temporaries = result_alone result;
  waiting = waiting;
  store = take s.call.base s.store;
  history = Left result ∷ s.history;
})

-- ---- the built-in functions

abbrev pub got : State → List ℕ → Progress
got s [] = running (record (next s) { temporaries = result_alone (Some (2 ^ 32 - 1)); history = Did GotEnd ∷ s.history })
got s (b ∷ more) = running (record (next s) { temporaries = result_alone (Some b); input = more; history = Did (Got b) ∷ s.history })

abbrev pub put_byte : State → ℕ → Progress
put_byte s w = running (record (next s) { temporaries = unset; history = Did (Put (w % 2 ^ 8)) ∷ s.history })

-- ---- steps

abbrev pub act : Program → State → Instruction → Progress
act p s instruction.Nothing = running (next s)
act p s (instruction.Move d x) = value s x >>= gives p d s
act p s (instruction.Compute o r d x y) = word_at s x >>= λ a. word_at s y >>= λ b. operate o r a b >>= gives_word p d s
act p s (instruction.Convert t d x) = word_at s x >>= λ a. gives_word p d s (word_for (number_of t a))
act p s (instruction.Load t d l) = reference_to p s l >>= loaded p s t d
act p s (instruction.Store t x l) = word_at s x >>= λ a. reference_to p s l >>= stored p s t a
act p s (instruction.Address d l) = reference_to p s l >>= λ r. gives p d s (reference r)
act p s (instruction.Part d x y size) =
    reference_in (value s x) >>= λ r. word_at s y >>= λ i. part p s d (into r i) size
act p s (instruction.Element t d x y) = reference_in (value s x) >>= λ r. word_at s y >>= λ i. element p s t d r i
act p s (instruction.Forget n k) =
    running (record (next s) { temporaries = unset; store = forgotten (function_at p s.call.function).objects s.call.base n k s.store })
act p s (instruction.Jump to) = running (goes_to s to)
act p s (instruction.Branch c r x y to) =
    word_at s x >>= λ a. word_at s y >>= λ b. running (goes_to s (if holds c r a b then to else s.call.at + 1))
act p s (instruction.Call f) = entered p s f
act p s instruction.PutByte = word_at s (operand.Temporary 0) >>= put_byte s
act p s instruction.GetByte = got s s.input
act p s instruction.Exit = word_at s (operand.Temporary 0) >>= λ w. ended (w % 2 ^ 8) s.input s.history
act p s instruction.Return = result_in (function_at p s.call.function).result (word_at s (operand.Temporary 0)) >>= returned s s.waiting

-- the instruction that comes next
abbrev pub instruction_at : Program → State → Option Instruction
instruction_at p s = slice_get (function_at p s.call.function).code s.call.at

unfoldable pub step : Program → State → Progress
step p s = instruction_at p s >>= act p s

abbrev pub goes_on : Progress → (State → Progress) → Progress
goes_on (running s) go = go s
goes_on (ended status input history) go = ended status input history
goes_on stuck go = stuck

-- n steps
abbrev pub run : Program → ℕ → State → Progress
run p zero s = running s
run p (suc n) s = goes_on (step p s) (run p n)

-- the objects before the run
abbrev pub first_store : Program → Store
first_store p = map literal_object p.literals ++ map static_object p.statics

-- main was called
abbrev pub start : Program → List ℕ → State
start p input = record {
  call = record { function = p.main; at = 0; kept = unset; base = length (first_store p); arrays = [] };
  temporaries = unset;
  waiting = [];
  store = first_store p ++ map indeterminate (function_at p p.main).objects;
  input = input;
  history = Entered p.main [] ∷ [];
}
