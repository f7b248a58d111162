-- The parts of a typed program for the layers above: the types of places and values, and the number of nodes of a function.
use Rattle.std.specs.Prelude.{ℕ, zero, suc, ◌+◌, false, List, [], ◌∷◌, length, Option, Some, None, slice_get}
use Rattle.ctypes.specs.declared.types.IntType.{IntType}
use Rattle.ctypes.specs.declared.types.IntType.TheVariants as ty
use Rattle.ctypes.specs.Arithmetic.{result_type}
use Rattle.typing_spec.specs.Types.{ObjectType, DeclaredType, complete, unknown_size, ParameterType, number, elements, element_type}
use Rattle.typing_spec.specs.Operators.{signed_type}
use Rattle.typing_spec.specs.Program as typed
use Rattle.typing_spec.specs.Program.{Storage, Place, Value, Arguments, Initialiser, Initialisers, Statement, Statements, Function, Static, Program}

-- ---- the type of a value, none of a void expression

abbrev pub type_of_value : Value → Option IntType
type_of_value (typed.constant t v) = Some t
type_of_value (typed.read t p) = Some t
type_of_value (typed.assigned at t p e) = Some t
type_of_value (typed.compound at op t of p e) = Some t
type_of_value (typed.stepped at m op t of p) = Some t
type_of_value (typed.unary at op t e) = Some (signed_type op t)
type_of_value (typed.binary at op t a b) = Some (result_type op t)
type_of_value (typed.both_true a b) = Some ty.Int
type_of_value (typed.one_true a b) = Some ty.Int
type_of_value (typed.chosen t c a b) = t
type_of_value (typed.sequence a b) = type_of_value b
type_of_value (typed.cast t e) = Some t
type_of_value (typed.discarded e) = None
type_of_value (typed.call at f t used args) = t

-- ---- the type of a place in a function of a program; the array that a parameter refers to is of unknown size

abbrev pub reference_in : List ParameterType → ℕ → Option DeclaredType
reference_in [] n = None
reference_in (number t ∷ ps) n = reference_in ps n
reference_in (elements t ∷ ps) zero = Some (unknown_size t)
reference_in (elements t ∷ ps) (suc n) = reference_in ps n

abbrev pub text_type : Option (List ℕ) → Option DeclaredType
text_type None = None
text_type (Some text) = Some (complete (record { element = ty.Char; constant = false; lengths = length text ∷ [] }))

abbrev pub static_type : Option Static → Option DeclaredType
static_type None = None
static_type (Some o) = Some (complete o.type)

abbrev pub object_type : Option ObjectType → Option DeclaredType
object_type None = None
object_type (Some t) = Some (complete t)

abbrev pub type_of_storage : Program → Function → Storage → Option DeclaredType
type_of_storage p f (typed.literal n) = text_type (slice_get p.literals n)
type_of_storage p f (typed.static n) = static_type (slice_get p.statics n)
type_of_storage p f (typed.automatic n) = object_type (slice_get f.objects n)
type_of_storage p f (typed.parameter n) = reference_in f.type.parameters n

-- of an element or a row: the type of the elements
abbrev pub row_type : Option DeclaredType → Option DeclaredType
row_type None = None
row_type (Some (complete t)) = object_type (element_type t)
row_type (Some (unknown_size t)) = Some (complete t)

abbrev pub type_of_place : Program → Function → Place → Option DeclaredType
type_of_place p f (typed.named at what) = type_of_storage p f what
type_of_place p f (typed.element at array i) = row_type (type_of_place p f array)

-- ---- nodes: each costs the abstract machine a tick; there are no more of them than the function's tree has

abbrev mutual
  pub place_nodes : Place → ℕ
  place_nodes (typed.named at what) = 1
  place_nodes (typed.element at a i) = place_nodes a + value_nodes i + 1

  pub value_nodes : Value → ℕ
  value_nodes (typed.constant t v) = 1
  value_nodes (typed.read t p) = place_nodes p
  value_nodes (typed.assigned at t p e) = place_nodes p + value_nodes e + 1
  value_nodes (typed.compound at op t of p e) = place_nodes p + value_nodes e + 1
  value_nodes (typed.stepped at m op t of p) = place_nodes p + 1
  value_nodes (typed.unary at op t e) = value_nodes e + 1
  value_nodes (typed.binary at op t a b) = value_nodes a + value_nodes b + 1
  value_nodes (typed.both_true a b) = value_nodes a + value_nodes b + 1
  value_nodes (typed.one_true a b) = value_nodes a + value_nodes b + 1
  value_nodes (typed.chosen t c a b) = value_nodes c + value_nodes a + value_nodes b + 1
  value_nodes (typed.sequence a b) = value_nodes a + value_nodes b + 1
  value_nodes (typed.cast t e) = value_nodes e + 1
  value_nodes (typed.discarded e) = value_nodes e + 1
  value_nodes (typed.call at f t used args) = argument_nodes args + 1

  pub argument_nodes : Arguments → ℕ
  argument_nodes typed.no_arguments = 0
  argument_nodes (typed.and_number t e more) = value_nodes e + argument_nodes more
  argument_nodes (typed.and_array p more) = place_nodes p + argument_nodes more

abbrev mutual
  pub initialiser_nodes : Initialiser → ℕ
  initialiser_nodes (typed.one_value t e) = value_nodes e
  initialiser_nodes (typed.text n) = 1
  initialiser_nodes (typed.in_braces i) = initialiser_nodes i + 1
  initialiser_nodes (typed.list is) = initialisers_nodes is + 1

  pub initialisers_nodes : Initialisers → ℕ
  initialisers_nodes typed.no_initialisers = 0
  initialisers_nodes (typed.and_initialiser i is) = initialiser_nodes i + initialisers_nodes is

abbrev pub option_nodes : Option Value → ℕ
option_nodes None = 0
option_nodes (Some e) = value_nodes e

abbrev mutual
  pub statement_nodes : Statement → ℕ
  statement_nodes typed.empty = 1
  statement_nodes (typed.evaluate e) = value_nodes e + 1
  statement_nodes (typed.declare n) = 1
  statement_nodes (typed.define n i) = initialiser_nodes i + 1
  statement_nodes (typed.block first count all) = statements_nodes all + 1
  statement_nodes (typed.branch e a) = value_nodes e + statement_nodes a + 1
  statement_nodes (typed.branches e a b) = value_nodes e + statement_nodes a + statement_nodes b + 1
  -- the switch and its block
  statement_nodes (typed.switch t e first count all) = value_nodes e + statements_nodes all + 2
  statement_nodes (typed.case v) = 1
  statement_nodes typed.default = 1
  statement_nodes (typed.while e a) = value_nodes e + statement_nodes a + 1
  statement_nodes (typed.do_while a e) = statement_nodes a + value_nodes e + 1
  statement_nodes (typed.for all first test step a) =
      statements_nodes all + option_nodes first + option_nodes test + option_nodes step + statement_nodes a + 1
  statement_nodes typed.break = 1
  statement_nodes typed.continue = 1
  statement_nodes typed.return_nothing = 1
  statement_nodes (typed.return_value t e) = value_nodes e + 1

  pub statements_nodes : Statements → ℕ
  statements_nodes typed.no_statements = 0
  statements_nodes (typed.and_statement x more) = statement_nodes x + statements_nodes more

-- the definition, its parameters, its body
abbrev pub typed_nodes : Function → ℕ
typed_nodes f = statement_nodes f.body + length f.type.parameters + 1
