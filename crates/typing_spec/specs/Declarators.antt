-- Declarators: the types of objects, of parameters and of functions (ISO/IEC 9899:2011 6.7.6).
use Rattle.std.specs.Prelude.{ℕ, ◌+◌, Bool, List, [], ◌∷◌, ◌++◌, length, Option, Some, None, nat_eq}
use Rattle.srcset.specs.declared.refusal.Pos.{Pos}
use Rattle.srcset.specs.declared.code.Code.TheVariants as code
use Rattle.ctypes.specs.declared.types.IntType.{IntType}
use Rattle.tree.specs.Tree.{Tree, ParameterTree}
use Rattle.typing_spec.specs.Types.{ObjectType, DeclaredType, complete, unknown_size, ParameterType, number, elements, FunctionType}
use Rattle.typing_spec.specs.Verdict.{Verdict, fine, breaks, then_check, both, refuse_if, provided}
use Rattle.typing_spec.specs.Program as typed
use Rattle.typing_spec.specs.Scope.{Scope, Binding, an_object, an_array_parameter, no_linkage, defined, lookup, with_name, with_literals, strings, inside}
use Rattle.typing_spec.specs.Specifiers.{BaseType, base_type}
use Rattle.typing_spec.specs.Expressions.{constant_value, positive, too_large}

-- ---- sizes (6.7.6.2)

-- the string literals in sizes, in their order
abbrev pub strings_in_size : Option Tree → List ℕ
strings_in_size None = []
strings_in_size (Some e) = strings e

abbrev pub strings_in_sizes : List (Option Tree) → List ℕ
strings_in_sizes [] = []
strings_in_sizes (e ∷ es) = strings_in_size e ++ strings_in_sizes es

-- a constant greater than zero
abbrev pub size_of_array : Scope → Pos → Tree → Verdict ℕ
size_of_array s at e = then_check (constant_value s e) (λ c. positive at c.v)

-- of an inner array the size must be known: an element is of complete type
abbrev pub inner_size : Scope → Pos → Option Tree → Verdict ℕ
inner_size s at None = breaks code.BadArrayType at
inner_size s at (Some e) = size_of_array s at e

abbrev pub and_length : ℕ → List ℕ → Verdict (List ℕ)
and_length n ns = fine (n ∷ ns)

abbrev pub inner_sizes : Scope → Pos → List (Option Tree) → Verdict (List ℕ)
inner_sizes s at [] = fine []
inner_sizes s at (e ∷ es) = both (inner_size s at e) (inner_sizes (with_literals s (strings_in_size e)) at es) and_length

-- the sizes of a declarator: none; or the outermost, which may be unknown, and the others
pub data Sizes : Type 0 where
  no_sizes : Sizes
  outermost : (n : Option ℕ) (lengths : List ℕ) → Sizes

abbrev pub outer_size : Scope → Pos → Option Tree → Verdict (Option ℕ)
outer_size s at None = fine None
outer_size s at (Some e) = then_check (size_of_array s at e) (λ n. fine (Some n))

abbrev pub and_outermost : Option ℕ → List ℕ → Verdict Sizes
and_outermost n ns = fine (outermost n ns)

abbrev pub sizes_in : Scope → Pos → List (Option Tree) → Verdict Sizes
sizes_in s at [] = fine no_sizes
sizes_in s at (e ∷ es) = both (outer_size s at e) (inner_sizes (with_literals s (strings_in_size e)) at es) and_outermost

-- ---- objects

abbrev pub object_type : IntType → Bool → List ℕ → ObjectType
object_type t k ns = record { element = t; constant = k; lengths = ns }

abbrev pub within_limit : Pos → ObjectType → DeclaredType → Verdict DeclaredType
within_limit at t declared = provided (too_large at t) (fine declared)

abbrev pub of_sizes : Pos → IntType → Bool → Sizes → Verdict DeclaredType
of_sizes at t k no_sizes = fine (complete (object_type t k []))
of_sizes at t k (outermost (Some n) ns) = within_limit at (object_type t k (n ∷ ns)) (complete (object_type t k (n ∷ ns)))
of_sizes at t k (outermost None ns) = within_limit at (object_type t k ns) (unknown_size (object_type t k ns))

-- void is always incomplete (6.2.5p19): no object and no array has it
abbrev pub void_object : Pos → Sizes → Verdict DeclaredType
void_object at no_sizes = breaks code.IncompleteObject at
void_object at (outermost n ns) = breaks code.BadArrayType at

abbrev pub with_base : Pos → Option IntType → Bool → Sizes → Verdict DeclaredType
with_base at None k sizes = void_object at sizes
with_base at (Some t) k sizes = of_sizes at t k sizes

-- the type of an object's declarator
abbrev pub declared_type : Scope → Pos → BaseType → List (Option Tree) → Verdict DeclaredType
declared_type s at b sizes = then_check (sizes_in s at sizes) (with_base at b.type b.constant)

-- ---- parameters (6.7.6.3)

-- the object of a parameter in its function: a number, which may be const, or a reference to elements (p7); its outermost size is not kept
pub data ParameterObject : Type 0 where
  a_number : (t : ObjectType) → ParameterObject
  a_reference : (element : ObjectType) → ParameterObject

abbrev pub parameter_of : Pos → IntType → Bool → Sizes → Verdict ParameterObject
parameter_of at t k no_sizes = fine (a_number (object_type t k []))
parameter_of at t k (outermost n ns) = provided (too_large at (object_type t k ns)) (fine (a_reference (object_type t k ns)))

-- p4, p10: (void) is no parameter, and no other is void
abbrev pub void_parameter : Pos → Sizes → Verdict ParameterObject
void_parameter at no_sizes = breaks code.VoidParameter at
void_parameter at (outermost n ns) = breaks code.BadArrayType at

abbrev pub parameter_with : Pos → BaseType → Option IntType → Sizes → Verdict ParameterObject
parameter_with at b None sizes = void_parameter at sizes
parameter_with at b (Some t) sizes = parameter_of at t b.constant sizes

abbrev pub parameter_object : Scope → ParameterTree → Verdict ParameterObject
parameter_object s p = both (base_type s p.start p.specifiers) (sizes_in s p.at p.sizes) (λ b sizes. parameter_with p.at b b.type sizes)

abbrev pub type_of_parameter : ParameterObject → ParameterType
type_of_parameter (a_number t) = number t.element
type_of_parameter (a_reference t) = elements t

-- 6.7p3: a name without linkage is declared once in a scope
abbrev pub is_fresh : ℕ → Pos → Option Binding → Verdict (Unit {0})
is_fresh level at None = fine tt
is_fresh level at (Some b) = refuse_if (nat_eq b.level level) code.NameDeclaredTwice at

abbrev pub fresh : Scope → Pos → ℕ → Verdict (Unit {0})
fresh s at n = is_fresh s.level at (lookup s n)

-- the parameter's name, if it has one, denotes it: a number is the next object of the function, a reference the next of its kind
abbrev pub with_parameter : Scope → ℕ → Option ℕ → ParameterObject → Scope
with_parameter s references None p = s
with_parameter s references (Some n) (a_number t) = with_name s n (an_object (typed.automatic (length s.objects)) (complete t)) no_linkage defined
with_parameter s references (Some n) (a_reference t) = with_name s n (an_array_parameter references t) no_linkage defined

abbrev pub with_object : Scope → ParameterObject → Scope
with_object s (a_number t) = record s { objects = s.objects ++ t ∷ [] }
with_object s (a_reference t) = s

abbrev pub references_after : ℕ → ParameterObject → ℕ
references_after n (a_number t) = n
references_after n (a_reference t) = n + 1

abbrev pub fresh_if_named : Scope → Pos → Option ℕ → Verdict (Unit {0})
fresh_if_named s at None = fine tt
fresh_if_named s at (Some n) = fresh s at n

-- the types of the parameters, and the scope that declares them
pub record Parameters : Type 0 where
  pub types : List ParameterType
  pub scope : Scope

abbrev pub and_parameter : ParameterType → Parameters → Verdict Parameters
and_parameter t ps = fine (record ps { types = t ∷ ps.types })

-- in order, each in the scope of those before it; `references` of the earlier ones are references
abbrev pub parameters_from : ℕ → Scope → List ParameterTree → Verdict Parameters
parameters_from references s [] = fine (record { types = []; scope = s })
parameters_from references s (p ∷ ps) =
    then_check (provided (fresh_if_named s p.at p.name) (parameter_object s p)) (λ o.
    then_check (parameters_from (references_after references o)
    (with_object (with_parameter (with_literals s (strings_in_sizes p.sizes)) references p.name o) o) ps)
    (and_parameter (type_of_parameter o)))

-- the parameters have a scope of their own, which is that of the function's body (6.2.1p4)
abbrev pub parameters_in : Scope → List ParameterTree → Verdict Parameters
parameters_in s ps = parameters_from 0 (inside (record s { objects = [] })) ps

abbrev pub function_type : BaseType → List ParameterType → FunctionType
function_type b ps = record { result = b.type; constant = b.constant; parameters = ps }

-- after a declarator the names of the parameters are out of scope
abbrev pub behind_parameters : Scope → Scope → Scope
behind_parameters s inner = record s { literals = inner.literals }
