-- A typed program respects the types that its nodes name (ISO/IEC 9899:2011 6.5 to 6.9): the assumption of the abstract machine and of the code
-- generator.
use Rattle.std.specs.Prelude.{ℕ, ℤ, Bool, true, false, not, ◌+◌, ◌&&◌, ◌||◌, nat_le, nat_lt, nat_eq, List, [], ◌∷◌, length, Option, Some, None, slice_get}
use Rattle.ctypes.specs.declared.types.IntType.{IntType}
use Rattle.ctypes.specs.declared.types.IntType.TheVariants as ty
use Rattle.ctypes.specs.Types.{is_value_of}
use Rattle.typing_spec.specs.Types.{ObjectType, DeclaredType, complete, unknown_size, ParameterType, number, elements, FunctionType, same_type, alike, elements_in, element_type, same_result}
use Rattle.typing_spec.specs.Program as typed
use Rattle.typing_spec.specs.Program.{Place, Value, Arguments, Initialiser, Initialisers, Statement, Statements, Function, Static, Program}
use Rattle.typing_spec.specs.Nodes.{type_of_value, type_of_place, typed_nodes}
use Rattle.typing_spec.specs.Initialisers.{is_character}
use Rattle.typing_spec.specs.Units.{numbers_in, weight_limit}

abbrev pub some_number : Option IntType → Bool
some_number None = false
some_number (Some t) = true

abbrev pub is_scalar : IntType → Option DeclaredType → Bool
is_scalar t None = false
is_scalar t (Some (unknown_size u)) = false
is_scalar t (Some (complete u)) = same_type t u.element && nat_eq (length u.lengths) 0

abbrev pub is_array : Option DeclaredType → Bool
is_array None = false
is_array (Some (unknown_size u)) = true
is_array (Some (complete u)) = nat_lt 0 (length u.lengths)

abbrev pub rows_of : Option DeclaredType → Option ObjectType
rows_of None = None
rows_of (Some (unknown_size u)) = Some u
rows_of (Some (complete u)) = element_type u

abbrev pub rows_alike : ObjectType → Option ObjectType → Bool
rows_alike t None = false
rows_alike t (Some u) = alike t u

abbrev pub same_none : Option IntType → Bool
same_none None = true
same_none (Some t) = false

abbrev pub callee_type : Program → typed.Callee → Option FunctionType
callee_type p (typed.function f) = elim (slice_get p.functions f) as (λ x. Option FunctionType) [ None ↦ None | Some g ↦ Some g.type ]
callee_type p typed.get_byte = Some (record { result = Some ty.Int; constant = false; parameters = [] })
callee_type p typed.put_byte = Some (record { result = None; constant = false; parameters = number ty.Int ∷ [] })
callee_type p typed.exit = Some (record { result = None; constant = false; parameters = number ty.Int ∷ [] })
callee_type p (typed.missing n) = None

abbrev pub params_of : Option FunctionType → List ParameterType
params_of None = []
params_of (Some g) = g.parameters

-- 6.5.2.2p2, 6.9p3: nothing evaluated calls a function without a definition; the value of a void call is not used (6.3.2.2)
abbrev pub call_fits : Option IntType → (used : Bool) → Option FunctionType → Bool
call_fits t used None = false
call_fits t used (Some g) = same_result t g.result && (not used || some_number t)

abbrev mutual
  pub place_is_typed : Program → Function → Place → Bool
  place_is_typed p f (typed.named at w) = elim (type_of_place p f (typed.named at w)) as (λ x. Bool) [ None ↦ false | Some t ↦ true ]
  place_is_typed p f (typed.element at a i) = place_is_typed p f a && (is_array (type_of_place p f a) && (value_is_typed p f i && some_number (type_of_value i)))

  pub value_is_typed : Program → Function → Value → Bool
  value_is_typed p f (typed.constant t v) = is_value_of t v
  value_is_typed p f (typed.read t a) = place_is_typed p f a && is_scalar t (type_of_place p f a)
  value_is_typed p f (typed.assigned at t a e) = place_is_typed p f a && (is_scalar t (type_of_place p f a) && (value_is_typed p f e && some_number (type_of_value e)))
  value_is_typed p f (typed.compound at op t of a e) = place_is_typed p f a && (is_scalar t (type_of_place p f a) && (value_is_typed p f e && some_number (type_of_value e)))
  value_is_typed p f (typed.stepped at m op t of a) = place_is_typed p f a && is_scalar t (type_of_place p f a)
  value_is_typed p f (typed.unary at op t e) = value_is_typed p f e && some_number (type_of_value e)
  value_is_typed p f (typed.binary at op t a b) = (value_is_typed p f a && some_number (type_of_value a)) && (value_is_typed p f b && some_number (type_of_value b))
  value_is_typed p f (typed.both_true a b) = (value_is_typed p f a && some_number (type_of_value a)) && (value_is_typed p f b && some_number (type_of_value b))
  value_is_typed p f (typed.one_true a b) = (value_is_typed p f a && some_number (type_of_value a)) && (value_is_typed p f b && some_number (type_of_value b))
  value_is_typed p f (typed.chosen (Some t) c a b) = (value_is_typed p f c && some_number (type_of_value c)) && ((value_is_typed p f a && some_number (type_of_value a)) && (value_is_typed p f b && some_number (type_of_value b)))
  value_is_typed p f (typed.chosen None c a b) = (value_is_typed p f c && some_number (type_of_value c)) && (value_is_typed p f a && (same_none (type_of_value a) && (value_is_typed p f b && same_none (type_of_value b))))
  value_is_typed p f (typed.sequence a b) = value_is_typed p f a && value_is_typed p f b
  value_is_typed p f (typed.cast t e) = value_is_typed p f e && some_number (type_of_value e)
  value_is_typed p f (typed.discarded e) = value_is_typed p f e
  value_is_typed p f (typed.call at g t used args) = arguments_are_typed p f (params_of (callee_type p g)) args && call_fits t used (callee_type p g)

  pub arguments_are_typed : Program → Function → List ParameterType → Arguments → Bool
  arguments_are_typed p f [] typed.no_arguments = true
  arguments_are_typed p f (number t ∷ ps) (typed.and_number u e more) = same_type t u && ((value_is_typed p f e && some_number (type_of_value e)) && arguments_are_typed p f ps more)
  arguments_are_typed p f (elements t ∷ ps) (typed.and_array a more) = place_is_typed p f a && (rows_alike t (rows_of (type_of_place p f a)) && arguments_are_typed p f ps more)
  arguments_are_typed p f ps args = false

-- an expression that is not void
abbrev pub number_is_typed : Program → Function → Value → Bool
number_is_typed p f e = value_is_typed p f e && some_number (type_of_value e)

-- 6.7.9p14: characters; there may be no room for the zero
abbrev pub text_fits : IntType → List ℕ → Option (List ℕ) → Bool
text_fits t (n ∷ []) (Some text) = is_character t && nat_le (length text) (n + 1)
text_fits t lengths text = false

abbrev pub initialisers_in : Initialisers → ℕ
initialisers_in typed.no_initialisers = 0
initialisers_in (typed.and_initialiser i is) = initialisers_in is + 1

-- of a number or an array whose elements have type t and whose lengths are these (6.7.9p2, p11, p14, p16)
abbrev mutual
  pub initialiser_is_typed : Program → Function → IntType → List ℕ → Initialiser → Bool
  initialiser_is_typed p f t lengths (typed.one_value u e) = same_type t u && (nat_eq (length lengths) 0 && number_is_typed p f e)
  initialiser_is_typed p f t lengths (typed.text n) = text_fits t lengths (slice_get p.literals n)
  initialiser_is_typed p f t lengths (typed.in_braces i) = initialiser_is_typed p f t lengths i
  initialiser_is_typed p f t [] (typed.list is) = false
  initialiser_is_typed p f t (n ∷ lengths) (typed.list is) = nat_le (initialisers_in is) n && initialisers_are_typed p f t lengths is

  pub initialisers_are_typed : Program → Function → IntType → List ℕ → Initialisers → Bool
  initialisers_are_typed p f t lengths typed.no_initialisers = true
  initialisers_are_typed p f t lengths (typed.and_initialiser i is) = initialiser_is_typed p f t lengths i && initialisers_are_typed p f t lengths is

abbrev pub definition_is_typed : Program → Function → Option ObjectType → Initialiser → Bool
definition_is_typed p f None i = false
definition_is_typed p f (Some t) i = initialiser_is_typed p f t.element t.lengths i

abbrev pub option_is_typed : Program → Function → Option Value → Bool
option_is_typed p f None = true
option_is_typed p f (Some e) = value_is_typed p f e

abbrev pub test_is_typed : Program → Function → Option Value → Bool
test_is_typed p f None = true
test_is_typed p f (Some e) = number_is_typed p f e

-- the objects from number lo to number hi are those of the block
abbrev mutual
  pub statement_is_typed : Program → Function → ℕ → ℕ → Statement → Bool
  statement_is_typed p f lo hi typed.empty = true
  statement_is_typed p f lo hi (typed.evaluate e) = value_is_typed p f e
  statement_is_typed p f lo hi (typed.declare n) = nat_le lo n && nat_lt n hi
  statement_is_typed p f lo hi (typed.define n i) = nat_le lo n && (nat_lt n hi && definition_is_typed p f (slice_get f.objects n) i)
  statement_is_typed p f lo hi (typed.block a k all) = nat_le lo a && (nat_le (a + k) hi && statements_are_typed p f a (a + k) all)
  statement_is_typed p f lo hi (typed.branch e a) = number_is_typed p f e && statement_is_typed p f lo hi a
  statement_is_typed p f lo hi (typed.branches e a b) = number_is_typed p f e && (statement_is_typed p f lo hi a && statement_is_typed p f lo hi b)
  statement_is_typed p f lo hi (typed.switch t e a k all) = number_is_typed p f e && (nat_le lo a && (nat_le (a + k) hi && statements_are_typed p f a (a + k) all))
  statement_is_typed p f lo hi (typed.case v) = true
  statement_is_typed p f lo hi typed.default = true
  statement_is_typed p f lo hi (typed.while e a) = number_is_typed p f e && statement_is_typed p f lo hi a
  statement_is_typed p f lo hi (typed.do_while a e) = statement_is_typed p f lo hi a && number_is_typed p f e
  statement_is_typed p f lo hi (typed.for all i t u a) = statements_are_typed p f lo hi all && (option_is_typed p f i && (test_is_typed p f t && (option_is_typed p f u && statement_is_typed p f lo hi a)))
  statement_is_typed p f lo hi typed.break = true
  statement_is_typed p f lo hi typed.continue = true
  statement_is_typed p f lo hi typed.return_nothing = same_result f.type.result None
  statement_is_typed p f lo hi (typed.return_value t e) = same_result f.type.result (Some t) && number_is_typed p f e

  pub statements_are_typed : Program → Function → ℕ → ℕ → Statements → Bool
  statements_are_typed p f lo hi typed.no_statements = true
  statements_are_typed p f lo hi (typed.and_statement x more) = statement_is_typed p f lo hi x && statements_are_typed p f lo hi more

-- 6.9.1p9: the parameters that are numbers are the first objects, in their order
abbrev pub parameters_are_first : List ParameterType → List ObjectType → Bool
parameters_are_first [] objects = true
parameters_are_first (elements t ∷ ps) objects = parameters_are_first ps objects
parameters_are_first (number t ∷ ps) [] = false
parameters_are_first (number t ∷ ps) (o ∷ objects) = same_type t o.element && (nat_eq (length o.lengths) 0 && parameters_are_first ps objects)

-- a body's objects are those after its parameters; its nodes are no more than its tree's, and it weighs no more than the greatest stack
abbrev pub function_is_typed : Program → Function → Bool
function_is_typed p f = nat_le (typed_nodes f) f.nodes && (nat_le f.weight weight_limit && (parameters_are_first f.type.parameters f.objects
    && statement_is_typed p f (numbers_in f.type.parameters) (length f.objects) f.body))

abbrev pub functions_are_typed : Program → List Function → Bool
functions_are_typed p [] = true
functions_are_typed p (f ∷ fs) = function_is_typed p f && functions_are_typed p fs

abbrev pub values_fit : IntType → List ℤ → Bool
values_fit t [] = true
values_fit t (v ∷ vs) = is_value_of t v && values_fit t vs

abbrev pub statics_are_typed : List Static → Bool
statics_are_typed [] = true
statics_are_typed (o ∷ os) = nat_le (length o.values) (elements_in o.type.lengths) && (values_fit o.type.element o.values && statics_are_typed os)

abbrev pub is_typed : Program → Bool
is_typed p = functions_are_typed p p.functions && (statics_are_typed p.statics && nat_lt p.main (length p.functions))
