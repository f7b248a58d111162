-- Trees that are no typed program, each next to one that differs from it in a single place.
use Rattle.std.proofs.Common.{◌≡◌, ℕ, List, [], ◌∷◌, pos, refl, Some, None, Option, Bool, true, false}
use Rattle.srcset.specs.declared.refusal.Pos.{Pos}
use Rattle.ctypes.specs.declared.types.IntType.{IntType}
use Rattle.ctypes.specs.declared.types.IntType.TheVariants as ty
use Rattle.typing_spec.specs.Types.{ObjectType, ParameterType, number, elements}
use Rattle.typing_spec.specs.Program as typed
use Rattle.typing_spec.specs.Program.{Initialiser, Statement, Callee, Arguments, Function}
use Rattle.typing_spec.specs.WellTyped.{is_typed}

abbrev at : Pos
at = record { file = 0; line = 1 }

abbrev object : IntType → List ℕ → ObjectType
object t lengths = record { element = t; constant = false; lengths = lengths }

abbrev one : typed.Value
one = typed.constant ty.Int (pos 1)

-- int main(void) and void f with these parameters, objects and one statement; the one literal is "ab"
abbrev with_function : List ParameterType → List ObjectType → (first count : ℕ) → Statement → Bool
with_function ps objects first count s =
    is_typed (record {
      literals = (97 ∷ 98 ∷ 0 ∷ []) ∷ [];
      statics = [];
      functions = record {
        name = 0;
        type = record { result = Some ty.Int; constant = false; parameters = [] };
        objects = [];
        body = typed.block 0 0 typed.no_statements;
        nodes = 8;
        weight = 96;
      }
          ∷ record {
            name = 1;
            type = record { result = None; constant = false; parameters = ps };
            objects = objects;
            body = typed.block first count (typed.and_statement s typed.no_statements);
            nodes = 32;
            weight = 96;
          } ∷ [];
      main = 0;
    })

-- ---- parameters that are numbers are the first objects: void f(int p, int a[2], char c)
abbrev some_parameters : List ParameterType
some_parameters = number ty.Int ∷ elements (object ty.Int []) ∷ number ty.Char ∷ []

parameters_in_order : with_function some_parameters (object ty.Int [] ∷ object ty.Char [] ∷ []) 2 0 typed.empty ≡ true
parameters_in_order = refl

parameters_of_other_types : with_function some_parameters (object ty.Char [] ∷ object ty.Int [] ∷ []) 2 0 typed.empty ≡ false
parameters_of_other_types = refl

parameter_without_object : with_function some_parameters (object ty.Int [] ∷ []) 1 0 typed.empty ≡ false
parameter_without_object = refl

parameter_with_an_array : with_function (number ty.Int ∷ []) (object ty.Int (2 ∷ []) ∷ []) 1 0 typed.empty ≡ false
parameter_with_an_array = refl

-- a declarator declares none of them
object_declared_again : with_function (number ty.Int ∷ []) (object ty.Int [] ∷ []) 0 1 (typed.declare 0) ≡ false
object_declared_again = refl

-- ---- an initialiser is for its object
abbrev defined_by : ObjectType → Initialiser → Bool
defined_by t i = with_function [] (t ∷ []) 0 1 (typed.define 0 i)

number_for_its_type : defined_by (object ty.Char []) (typed.one_value ty.Char one) ≡ true
number_for_its_type = refl

number_for_another_type : defined_by (object ty.Char []) (typed.one_value ty.Int one) ≡ false
number_for_another_type = refl

number_for_an_array : defined_by (object ty.Int (2 ∷ [])) (typed.one_value ty.Int one) ≡ false
number_for_an_array = refl

number_in_braces : defined_by (object ty.Int []) (typed.in_braces (typed.one_value ty.Int one)) ≡ true
number_in_braces = refl

list_for_a_number : defined_by (object ty.Int []) (typed.list (typed.and_initialiser (typed.one_value ty.Int one) typed.no_initialisers)) ≡ false
list_for_a_number = refl

list_for_an_array : defined_by (object ty.Int (2 ∷ [])) (typed.list (typed.and_initialiser (typed.one_value ty.Int one) typed.no_initialisers)) ≡ true
list_for_an_array = refl

list_longer_than_its_array : defined_by (object ty.Int (1 ∷ [])) (typed.list (typed.and_initialiser (typed.one_value ty.Int one)
    (typed.and_initialiser (typed.one_value ty.Int one) typed.no_initialisers))) ≡ false
list_longer_than_its_array = refl

-- 6.7.9p14: char s[2] = "ab" has no room for the zero
text_without_zero : defined_by (object ty.SChar (2 ∷ [])) (typed.text 0) ≡ true
text_without_zero = refl

text_longer_than_its_array : defined_by (object ty.SChar (1 ∷ [])) (typed.text 0) ≡ false
text_longer_than_its_array = refl

text_for_ints : defined_by (object ty.Int (3 ∷ [])) (typed.text 0) ≡ false
text_for_ints = refl

text_for_rows : defined_by (object ty.Char (3 ∷ 3 ∷ [])) (typed.text 0) ≡ false
text_for_rows = refl

-- ---- calls
abbrev called : Callee → Option IntType → (used : Bool) → Arguments → Bool
called g t used args = with_function [] (object ty.Bool (1 ∷ []) ∷ []) 0 1 (typed.evaluate (typed.call at g t used args))

built_in_called : called typed.put_byte None false (typed.and_number ty.Int one typed.no_arguments) ≡ true
built_in_called = refl

missing_called : called (typed.missing 2) None false typed.no_arguments ≡ false
missing_called = refl

missing_called_with_array : called (typed.missing 2) None false (typed.and_array (typed.named at (typed.automatic 0)) typed.no_arguments) ≡ false
missing_called_with_array = refl

void_call_not_used : called (typed.function 1) None false typed.no_arguments ≡ true
void_call_not_used = refl

void_call_used : called (typed.function 1) None true typed.no_arguments ≡ false
void_call_used = refl

-- ---- a controlling expression is a number
void_tested : with_function [] [] 0 0 (typed.branch (typed.discarded one) typed.empty) ≡ false
void_tested = refl

number_tested : with_function [] [] 0 0 (typed.branch one typed.empty) ≡ true
number_tested = refl
