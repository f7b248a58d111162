-- The typing rules of function definitions and of translation units (ISO/IEC 9899:2011 6.9), and the limits of a program.
use Rattle.std.specs.Prelude.{ℕ, ◌+◌, ◌-◌, ◌*◌, ◌/◌, Bool, true, false, not, ◌&&◌, ℤ, nat_lt, List, [], ◌∷◌, ◌++◌, length, take, codes, Option, Some, None, nat_eq, if◌then◌else◌}
use Rattle.srcset.specs.declared.refusal.Pos.{Pos}
use Rattle.srcset.specs.declared.code.Code.TheVariants as code
use Rattle.ctypes.specs.declared.types.IntType.TheVariants as ty
use Rattle.tree.specs.Tree.{ParameterTree, FunctionTree, ExternalTree, definition, declaration}
use Rattle.tree.specs.Counts.{function_nodes, weight_of}
use Rattle.typing_spec.specs.Types.{ObjectType, ParameterType, number, elements, FunctionType, same_function, size_of_object, size_of_parameter}
use Rattle.typing_spec.specs.Verdict.{Verdict, fine, breaks, then_check, refuse_if, each, provided}
use Rattle.typing_spec.specs.Program as typed
use Rattle.typing_spec.specs.Program.{Function, Static, Program}
use Rattle.typing_spec.specs.Scope.{Scope, StaticObject, Binding, no_linkage, internal, external, defined, file_scope, lookup, is_called, literal_of}
use Rattle.typing_spec.specs.Declarators.{Parameters, parameters_in, behind_parameters, function_type}
use Rattle.typing_spec.specs.Linkage.{file_function}
use Rattle.typing_spec.specs.Declarations.{Specified, specified, Initial, Declared, declaration_typed}
use Rattle.typing_spec.specs.Statements.{Around, AllDone, pieces}
use Rattle.typing_spec.specs.Uses.{uses_in_functions, all_defined}

-- the limits of this profile: bytes of the static objects and string literals, functions, and the weight of a function by the greatest
-- stack; by a smaller stack it is the stack's bytes
abbrev pub static_limit : ℕ
static_limit = 16777216

abbrev pub weight_limit : ℕ
weight_limit = 16777216

abbrev pub function_limit : ℕ
function_limit = 16384

-- ---- function definitions (6.9.1)

-- p5: each parameter has a name
abbrev pub has_name : Option ℕ → Bool
has_name None = false
has_name (Some n) = true

abbrev pub all_named : List ParameterTree → Verdict (Unit {0})
all_named [] = fine tt
all_named (p ∷ ps) = each (refuse_if (not (has_name p.name)) code.UnnamedParameter p.at) (all_named ps)

-- the scope of the body: the function's name is in scope, and before it its parameters
abbrev pub newer : List Binding → List Binding → List Binding
newer all old = take (length all - length old) all

abbrev pub body_scope : Scope → Scope → Scope → Scope
body_scope file inner outer = record inner { bindings = newer inner.bindings outer.bindings ++ file.bindings; statics = file.statics }

-- bytes rounded up to a multiple of 4
abbrev pub in_words : ℕ → ℕ
in_words n = (n + 3) / 4 * 4

abbrev pub bytes_of_objects : List ObjectType → ℕ
bytes_of_objects [] = 0
bytes_of_objects (t ∷ ts) = in_words (size_of_object t) + bytes_of_objects ts

-- the parameters that are numbers are among the objects
abbrev pub bytes_of_references : List ParameterType → ℕ
bytes_of_references [] = 0
bytes_of_references (number t ∷ ps) = bytes_of_references ps
bytes_of_references (elements t ∷ ps) = in_words (size_of_parameter (elements t)) + bytes_of_references ps

abbrev pub weight : FunctionTree → List ParameterType → List ObjectType → ℕ
weight f ps objects = weight_of (function_nodes f) (bytes_of_references ps + bytes_of_objects objects)

-- the bytes of the stack, the limit of each function's weight; and the result so far: the scope, the functions in order, and the
-- first values of static objects
pub record Built : Type 0 where
  pub stack : ℕ
  pub scope : Scope
  pub functions : List Function
  pub initial : List Initial

-- the body is a block, whose objects follow the parameters that are numbers
abbrev pub numbers_in : List ParameterType → ℕ
numbers_in [] = 0
numbers_in (number t ∷ ps) = numbers_in ps + 1
numbers_in (elements t ∷ ps) = numbers_in ps

abbrev pub function_of : FunctionTree → FunctionType → AllDone → Function
function_of f t all = let numbers : ℕ = numbers_in t.parameters in record {
  name = f.name;
  type = t;
  objects = all.scope.objects;
  body = typed.block numbers (length all.scope.objects - numbers) all.statements;
  nodes = function_nodes f;
  weight = weight f t.parameters all.scope.objects;
}

abbrev pub with_function : Built → Scope → FunctionTree → FunctionType → AllDone → Verdict Built
with_function b file f t all = provided (refuse_if (nat_lt b.stack (weight f t.parameters all.scope.objects)) code.WeightLimit f.at)
    (fine (record {
      stack = b.stack;
      scope = record file { literals = all.scope.literals; statics = all.scope.statics; objects = [] };
      functions = b.functions ++ function_of f t all ∷ [];
      initial = b.initial ++ all.initial;
    }))

abbrev pub around_of : FunctionType → Around
around_of t = record { result = t.result; in_loop = false; in_switch = false }

abbrev pub body_typed : Built → FunctionTree → Scope → Parameters → FunctionType → Scope → Verdict Built
body_typed b f outer ps t file = then_check (pieces (around_of t) None (body_scope file ps.scope outer) f.body) (with_function b file f t)

abbrev pub with_type : Built → FunctionTree → Specified → Parameters → FunctionType → Verdict Built
with_type b f d ps t = then_check (file_function (behind_parameters d.scope ps.scope) f.at f.name d.class t defined) (body_typed b f d.scope ps t)

abbrev pub function_typed : Built → FunctionTree → Verdict Built
function_typed b f =
    then_check (specified b.scope f.start f.specifiers) (λ d.
    then_check (provided (all_named f.parameters) (parameters_in d.scope f.parameters)) (λ ps. with_type b f d ps (function_type d.base ps.types)))

-- ---- translation units (6.9)

abbrev pub with_declaration : Built → Declared → Verdict Built
with_declaration b d = fine (record { stack = b.stack; scope = d.scope; functions = b.functions; initial = b.initial ++ d.effects.initial })

abbrev pub external_typed : Built → ExternalTree → Verdict Built
external_typed b (definition f) = function_typed b f
external_typed b (declaration d) = then_check (declaration_typed b.scope d) (with_declaration b)

abbrev pub externals_typed : Built → List ExternalTree → Verdict Built
externals_typed b [] = fine b
externals_typed b (e ∷ es) = then_check (external_typed b e) (λ c. externals_typed c es)

-- the names of the functions that a unit defines, in their order
abbrev pub definitions_in : List ExternalTree → List ℕ
definitions_in [] = []
definitions_in (definition f ∷ es) = f.name ∷ definitions_in es
definitions_in (declaration d ∷ es) = definitions_in es

-- ---- main (5.1.2.2.1): int main(void), defined with external linkage

abbrev pub main_type : FunctionType
main_type = record { result = Some ty.Int; constant = false; parameters = [] }

abbrev pub is_external : Option Binding → Bool
is_external None = false
is_external (Some b) = elim b.linkage as (λ l. Bool) [ no_linkage ↦ false | internal ↦ false | external ↦ true ]

abbrev pub is_main : Scope → Function → Bool
is_main s f = is_called s f.name (codes "main") && (same_function f.type main_type && is_external (lookup s f.name))

abbrev pub main_from : Scope → ℕ → List Function → Option ℕ
main_from s n [] = None
main_from s n (f ∷ fs) = if is_main s f then Some n else main_from s (n + 1) fs

abbrev pub main_or_fault : Pos → Option ℕ → Verdict ℕ
main_or_fault whole None = breaks code.NoMain whole
main_or_fault whole (Some n) = fine n

-- ---- the program

-- 6.7.9p10: the first values of an object, none for one without an initialiser
abbrev pub values_for : ℕ → List Initial → List ℤ
values_for n [] = []
values_for n (i ∷ is) = if nat_eq i.static n then i.values else values_for n is

abbrev pub statics_from : ℕ → List StaticObject → List Initial → List Static
statics_from n [] initial = []
statics_from n (o ∷ os) initial = record { type = o.type; defined = o.defined; values = values_for n initial } ∷ statics_from (n + 1) os initial

-- 6.4.5p6: the characters and a zero
abbrev pub literals_of : Scope → List ℕ → List (List ℕ)
literals_of s [] = []
literals_of s (n ∷ ns) = (literal_of s n ++ 0 ∷ []) ∷ literals_of s ns

-- the bytes that the objects with static storage and the string literals take
abbrev pub bytes_of_statics : List StaticObject → ℕ
bytes_of_statics [] = 0
bytes_of_statics (o ∷ os) = (if o.defined then in_words (size_of_object o.type) else 0) + bytes_of_statics os

abbrev pub bytes_of_literals : List (List ℕ) → ℕ
bytes_of_literals [] = 0
bytes_of_literals (text ∷ texts) = in_words (length text) + bytes_of_literals texts

abbrev pub static_bytes : Scope → ℕ
static_bytes s = bytes_of_statics s.statics + bytes_of_literals (literals_of s s.literals)

abbrev pub within_limits : Pos → Built → Verdict (Unit {0})
within_limits whole b =
    each (refuse_if (nat_lt static_limit (static_bytes b.scope)) code.StaticSizeLimit whole)
    (refuse_if (nat_lt function_limit (length b.functions)) code.FunctionLimit whole)

abbrev pub program_of : Built → ℕ → Program
program_of b main =
    record { literals = literals_of b.scope b.scope.literals; statics = statics_from 0 b.scope.statics b.initial; functions = b.functions; main = main }

-- violations that concern the whole unit have the place `whole`
abbrev pub whole_program : Pos → Built → Verdict Program
whole_program whole b =
    provided (each (within_limits whole b) (all_defined b.scope [] (uses_in_functions b.functions)))
    (then_check (main_or_fault whole (main_from b.scope 0 b.functions)) (λ main. fine (program_of b main)))

-- the typed program of a unit whose names and literals have these texts, for a stack of `stack` bytes, or the violated constraints
abbrev pub unit_typed : (stack : ℕ) → List (List ℕ) → Pos → List ExternalTree → Verdict Program
unit_typed stack texts whole es =
    then_check (externals_typed (record { stack = stack; scope = file_scope texts (definitions_in es); functions = []; initial = [] }) es) (whole_program whole)
