-- The requirements of lowering on a typed program in addition to `IsChecked`: the constraints of ISO/IEC 9899:2011 6.3, 6.5, 6.7 and 6.8 that the
-- typed form would let pass, each with its section.
use Rattle.std.specs.Prelude.{◌≡◌, ℕ, ℤ, Bool, true, false, ◌&&◌, nat_le, nat_lt, List, Option, Some, None}
use Rattle.std.specs.List.{list_all}
use Rattle.ctypes.specs.declared.types.IntType.{IntType}
use Rattle.ctypes.specs.declared.types.IntType.TheVariants as ty
use Rattle.ctypes.specs.Types.{is_value_of}
use Rattle.srcset.specs.declared.refusal.Pos.{Pos}
use Rattle.tree.specs.Tree.{ExternalTree}
use Rattle.typing_spec.specs.Types.{ObjectType, ParameterType, number, elements, elements_in, size_of_object}
use Rattle.typing_spec.specs.Expressions.{object_limit}
use Rattle.typing_spec.specs.Program as typed
use Rattle.typing_spec.specs.Verdict.{fine}
use Rattle.typing_spec.specs.Units.{unit_typed}
use Rattle.typing_spec.specs.Program.{Place, Value, Arguments, Initialiser, Initialisers, Statement, Statements, Function, Program}
use Rattle.csem.specs.Statements.{labels_of}

-- a type that the promotions give (6.3.1.1p2)
abbrev pub is_wide : IntType → Bool
is_wide ty.Bool = false
is_wide ty.Char = false
is_wide ty.SChar = false
is_wide ty.UChar = false
is_wide ty.Short = false
is_wide ty.UShort = false
is_wide ty.Int = true
is_wide ty.UInt = true
is_wide ty.Long = true
is_wide ty.ULong = true

-- its value may be used: a call is marked so (6.5.2.2, 6.9.1p12), a void `?:` has none
abbrev pub gives : Value → Bool
gives (typed.constant t v) = true
gives (typed.read t place) = true
gives (typed.assigned at t place e) = true
gives (typed.compound at op t of place e) = true
gives (typed.stepped at moment op t of place) = true
gives (typed.unary at op t e) = true
gives (typed.binary at op t a b) = true
gives (typed.both_true a b) = true
gives (typed.one_true a b) = true
gives (typed.chosen None c a b) = false
gives (typed.chosen (Some t) c a b) = gives a && gives b
gives (typed.sequence a b) = gives b
gives (typed.cast t e) = true
gives (typed.discarded e) = true
gives (typed.call at callee result used passed) = used

abbrev mutual
  -- operands are converted to promoted types (6.3.1.8, 6.5.3.3p3, 6.5.7p3, 6.5.15p5, 6.5.16.2p3), and a used expression gives a value
  pub value_is_asked : Value → Bool
  value_is_asked (typed.constant t v) = true
  value_is_asked (typed.read t place) = place_is_asked place
  value_is_asked (typed.assigned at t place e) = place_is_asked place && (value_is_asked e && gives e)
  value_is_asked (typed.compound at op t of place e) = is_wide of && (place_is_asked place && (value_is_asked e && gives e))
  value_is_asked (typed.stepped at moment op t of place) = is_wide of && place_is_asked place
  value_is_asked (typed.unary at op t e) = is_wide t && (value_is_asked e && gives e)
  value_is_asked (typed.binary at op t a b) = is_wide t && ((value_is_asked a && gives a) && (value_is_asked b && gives b))
  value_is_asked (typed.both_true a b) = (value_is_asked a && gives a) && (value_is_asked b && gives b)
  value_is_asked (typed.one_true a b) = (value_is_asked a && gives a) && (value_is_asked b && gives b)
  value_is_asked (typed.chosen None c a b) = (value_is_asked c && gives c) && (value_is_asked a && value_is_asked b)
  value_is_asked (typed.chosen (Some t) c a b) = is_wide t && ((value_is_asked c && gives c) && (value_is_asked a && value_is_asked b))
  value_is_asked (typed.sequence a b) = value_is_asked a && value_is_asked b
  value_is_asked (typed.cast t e) = value_is_asked e && gives e
  value_is_asked (typed.discarded e) = value_is_asked e
  value_is_asked (typed.call at callee result used arguments) = arguments_are_asked arguments

  pub place_is_asked : Place → Bool
  place_is_asked (typed.named at what) = true
  place_is_asked (typed.element at array index) = place_is_asked array && (value_is_asked index && gives index)

  pub arguments_are_asked : Arguments → Bool
  arguments_are_asked typed.no_arguments = true
  arguments_are_asked (typed.and_number t e more) = (value_is_asked e && gives e) && arguments_are_asked more
  arguments_are_asked (typed.and_array array more) = place_is_asked array && arguments_are_asked more

abbrev pub number_is_asked : Value → Bool
number_is_asked e = value_is_asked e && gives e

abbrev pub option_is_asked : Option Value → Bool
option_is_asked None = true
option_is_asked (Some e) = value_is_asked e

abbrev pub test_is_asked : Option Value → Bool
test_is_asked None = true
test_is_asked (Some e) = number_is_asked e

abbrev mutual
  pub initialiser_is_asked : Initialiser → Bool
  initialiser_is_asked (typed.one_value t e) = number_is_asked e
  initialiser_is_asked (typed.text n) = true
  initialiser_is_asked (typed.in_braces i) = initialiser_is_asked i
  initialiser_is_asked (typed.list all) = initialisers_are_asked all

  pub initialisers_are_asked : Initialisers → Bool
  initialisers_are_asked typed.no_initialisers = true
  initialisers_are_asked (typed.and_initialiser i more) = initialiser_is_asked i && initialisers_are_asked more

-- statements that declare an object (6.8.5.3p1: a declaration, which never leaves the `for`)
abbrev pub declares : Statement → Bool
declares (typed.declare n) = true
declares (typed.define n i) = true
declares typed.empty = false
declares (typed.evaluate e) = false
declares (typed.block first count all) = false
declares (typed.branch e a) = false
declares (typed.branches e a b) = false
declares (typed.switch t e first count all) = false
declares (typed.case v) = false
declares typed.default = false
declares (typed.while e a) = false
declares (typed.do_while a e) = false
declares (typed.for declared start test step a) = false
declares typed.break = false
declares typed.continue = false
declares typed.return_nothing = false
declares (typed.return_value t e) = false

abbrev pub all_declare : Statements → Bool
all_declare typed.no_statements = true
all_declare (typed.and_statement x more) = declares x && all_declare more

-- 6.8.4.2p5: each case is converted to the promoted type of the controlling expression
abbrev pub label_fits : IntType → Option ℤ → Bool
label_fits t None = true
label_fits t (Some v) = is_value_of t v

abbrev mutual
  pub statement_is_asked : Statement → Bool
  statement_is_asked typed.empty = true
  statement_is_asked (typed.evaluate e) = value_is_asked e
  statement_is_asked (typed.declare n) = true
  statement_is_asked (typed.define n i) = initialiser_is_asked i
  statement_is_asked (typed.block first count all) = statements_are_asked all
  statement_is_asked (typed.branch e a) = number_is_asked e && statement_is_asked a
  statement_is_asked (typed.branches e a b) = number_is_asked e && (statement_is_asked a && statement_is_asked b)
  statement_is_asked (typed.switch t e first count all) =
      is_wide t && (list_all (label_fits t) (labels_of all) && (number_is_asked e && statements_are_asked all))
  statement_is_asked (typed.case v) = true
  statement_is_asked typed.default = true
  statement_is_asked (typed.while e a) = number_is_asked e && statement_is_asked a
  statement_is_asked (typed.do_while a e) = statement_is_asked a && number_is_asked e
  statement_is_asked (typed.for declared start test step a) =
      all_declare declared && (statements_are_asked declared && (option_is_asked start && (test_is_asked test && (option_is_asked step && statement_is_asked a))))
  statement_is_asked typed.break = true
  statement_is_asked typed.continue = true
  statement_is_asked typed.return_nothing = true
  statement_is_asked (typed.return_value t e) = number_is_asked e

  pub statements_are_asked : Statements → Bool
  statements_are_asked typed.no_statements = true
  statements_are_asked (typed.and_statement x more) = statement_is_asked x && statements_are_asked more

abbrev pub bodies_are_asked : Program → Bool
bodies_are_asked p = list_all (λ f. statement_is_asked f.body) p.functions

-- ---- sizes

-- an array has elements (6.7.6.2p1), and no object has more bytes than this profile lets it have (5.2.4.1)
abbrev pub is_sized : ObjectType → Bool
is_sized t = nat_lt 0 (elements_in t.lengths) && nat_le (size_of_object t) object_limit

-- 6.7.6.3p7: the object that an array parameter refers to
abbrev pub parameter_is_sized : ParameterType → Bool
parameter_is_sized (number t) = true
parameter_is_sized (elements t) = is_sized t

abbrev pub function_is_sized : Function → Bool
function_is_sized f = list_all parameter_is_sized f.type.parameters && list_all is_sized f.objects

-- 6.9.2p5: a size that stays unknown is 1
abbrev pub types_are_sized : Program → Bool
types_are_sized p = list_all function_is_sized p.functions && list_all (λ o. is_sized o.type) p.statics

-- ---- all of it

abbrev pub is_asked : Program → Bool
is_asked p = bodies_are_asked p && types_are_sized p

-- ---- the law

-- each unit that breaks no constraint gives such a program
abbrev pub ProgramIsAsked : Type 0
ProgramIsAsked = (stack : ℕ) (texts : List (List ℕ)) (whole : Pos) (unit : List ExternalTree) (p : Program) → unit_typed stack texts whole unit ≡ fine p → is_asked p ≡ true
