-- Declarations (ISO/IEC 9899:2011 6.7): specifiers and enumerators, declarators with their initialisers, static assertions.
use Rattle.std.specs.Prelude.{ℕ, zero, suc, ◌+◌, Bool, true, false, not, ◌&&◌, ℤ, pos, ◌+ℤ◌, List, [], ◌∷◌, ◌++◌, length, Option, Some, None, nat_eq, if◌then◌else◌}
use Rattle.srcset.specs.declared.refusal.Pos.{Pos}
use Rattle.srcset.specs.declared.code.Code.TheVariants as code
use Rattle.ctypes.specs.declared.types.IntType.{IntType}
use Rattle.ctypes.specs.declared.types.IntType.TheVariants as ty
use Rattle.ctypes.specs.Types.{is_value_of, truth}
use Rattle.tree.specs.declared.expression.TypeSpecifier.{TypeSpecifier}
use Rattle.tree.specs.Tree.{Tree, string, Init, init_hole, one_init, braced_init, EnumeratorTree, SpecifierTree, extern_specifier, static_specifier, plain_specifier, enumerators_specifier, ParameterTree, ItemTree, object, function, DeclarationTree, declared, assertion}
use Rattle.typing_spec.specs.Types.{ObjectType, DeclaredType, complete, unknown_size, composite, array_of}
use Rattle.typing_spec.specs.Verdict.{Verdict, fine, breaks, then_check, both, refuse_if, each, provided}
use Rattle.typing_spec.specs.Program as typed
use Rattle.typing_spec.specs.Program.{Storage, Initialiser, Statements}
use Rattle.typing_spec.specs.Scope.{Scope, Binding, BuiltIn, Tag, Meaning, an_object, an_array_parameter, a_function, an_enumerator, no_linkage, mentioned, defined, lookup, tag_in, with_name, with_tag, with_literals, past, literal_of, built_in}
use Rattle.typing_spec.specs.Specifiers.{BaseType, words_of, tags_of, is_const, named_type, base_or_fault, tags_known, count}
use Rattle.typing_spec.specs.Expressions.{constant_value, too_large}
use Rattle.typing_spec.specs.Initialisers.{Wanted, an_array, wanted, has_characters, text_alone, count_of, past_init, initialiser, constant_parts, values}
use Rattle.typing_spec.specs.Declarators.{declared_type, strings_in_sizes, fresh, parameters_in, behind_parameters, function_type}
use Rattle.typing_spec.specs.Linkage.{StorageClass, no_class, by_extern, by_static, state_of_object, agreed, as_built_in, compatible, object_with, put_static, completed, file_object, file_function}

-- ---- specifiers (6.7.1, 6.7.2)

abbrev pub classes_of : List SpecifierTree → List StorageClass
classes_of [] = []
classes_of (extern_specifier ∷ ss) = by_extern ∷ classes_of ss
classes_of (static_specifier ∷ ss) = by_static ∷ classes_of ss
classes_of (plain_specifier t ∷ ss) = classes_of ss
classes_of (enumerators_specifier tag list ∷ ss) = classes_of ss

-- 6.7.1p2: at most one
abbrev pub class_of : Pos → List StorageClass → Verdict StorageClass
class_of at [] = fine no_class
class_of at (c ∷ []) = fine c
class_of at (c ∷ (d ∷ ds)) = breaks code.BadStorageClass at

abbrev pub plain_of : List SpecifierTree → List TypeSpecifier
plain_of [] = []
plain_of (extern_specifier ∷ ss) = plain_of ss
plain_of (static_specifier ∷ ss) = plain_of ss
plain_of (plain_specifier t ∷ ss) = t ∷ plain_of ss
plain_of (enumerators_specifier tag list ∷ ss) = plain_of ss

-- how many lists of enumerators there are
abbrev pub lists_in : List SpecifierTree → ℕ
lists_in [] = 0
lists_in (extern_specifier ∷ ss) = lists_in ss
lists_in (static_specifier ∷ ss) = lists_in ss
lists_in (plain_specifier t ∷ ss) = lists_in ss
lists_in (enumerators_specifier tag list ∷ ss) = lists_in ss + 1

-- ---- enumerators (6.7.2.2)

-- p2: the value of each is an int; without one it is that of the enumerator before and 1 (p3)
abbrev pub fits_int : Pos → ℤ → Verdict ℤ
fits_int at v = provided (refuse_if (not (is_value_of ty.Int v)) code.EnumeratorOutOfRange at) (fine v)

abbrev pub value_of_enumerator : Scope → ℤ → Pos → Option Tree → Verdict ℤ
value_of_enumerator s next at None = fits_int at next
value_of_enumerator s next at (Some e) = then_check (constant_value s e) (λ c. fits_int at c.v)

abbrev pub past_option : Scope → Option Tree → Scope
past_option s None = s
past_option s (Some e) = past s e

-- at file scope a name of a built-in is a function's
abbrev pub built_in_at_file : Scope → ℕ → Option BuiltIn
built_in_at_file s n = if nat_eq s.level 0 then built_in s n else None

abbrev pub fresh_enumerator : Scope → Pos → ℕ → Verdict (Unit {0})
fresh_enumerator s at n = each (fresh s at n) (as_built_in at (agreed (an_enumerator (pos 0)) no_linkage mentioned) (built_in_at_file s n))

-- the scope of each begins after it (6.2.1p7)
abbrev pub enumerators : Scope → ℤ → List EnumeratorTree → Verdict Scope
enumerators s next [] = fine s
enumerators s next (e ∷ es) =
    then_check (provided (fresh_enumerator s e.at e.name) (value_of_enumerator s next e.at e.value)) (λ v.
    enumerators (with_name (past_option s e.value) e.name (an_enumerator v) no_linkage defined) (v +ℤ pos 1) es)

-- 6.7.2.3p1: a tag has one list in a scope, and is incomplete within it
abbrev pub is_fresh_tag : ℕ → Pos → Option Tag → Verdict (Unit {0})
is_fresh_tag level at None = fine tt
is_fresh_tag level at (Some t) = refuse_if (nat_eq t.level level) code.BadEnumTag at

abbrev pub enumerated : Scope → Pos → Option ℕ → List EnumeratorTree → Verdict Scope
enumerated s at None es = enumerators s (pos 0) es
enumerated s at (Some t) es =
    provided (is_fresh_tag s.level at (tag_in s.tags t)) (then_check (enumerators (with_tag s t false) (pos 0) es) (λ inner. fine (with_tag inner t true)))

abbrev pub with_lists : Scope → Pos → List SpecifierTree → Verdict Scope
with_lists s at [] = fine s
with_lists s at (extern_specifier ∷ ss) = with_lists s at ss
with_lists s at (static_specifier ∷ ss) = with_lists s at ss
with_lists s at (plain_specifier t ∷ ss) = with_lists s at ss
with_lists s at (enumerators_specifier tag list ∷ ss) = then_check (enumerated s at tag list) (λ inner. with_lists inner at ss)

-- the meaning of specifiers, the first of them at this place
pub record Specified : Type 0 where
  pub class : StorageClass
  pub base : BaseType
  pub scope : Scope

abbrev pub base_in : Scope → Pos → ℕ → List TypeSpecifier → Verdict BaseType
base_in s at lists ss = provided (tags_known s at (tags_of ss)) (base_or_fault at (is_const ss) (named_type (lists + count (tags_of ss)) (words_of ss)))

abbrev pub specified : Scope → Pos → List SpecifierTree → Verdict Specified
specified s at ss =
    then_check (with_lists s at ss) (λ inner.
    both (class_of at (classes_of ss)) (base_in inner at (lists_in ss) (plain_of ss)) (λ c b. fine (record { class = c; base = b; scope = inner })))

-- ---- an object's declarator

-- one that has begun: its name is in scope, its initialiser follows
pub record Begun : Type 0 where
  pub at : Pos
  pub name : ℕ
  pub class : StorageClass
  pub type : DeclaredType
  pub what : Storage
  pub init : Option Init
  pub scope : Scope

abbrev pub has_init : Option Init → Bool
has_init None = false
has_init (Some i) = true

-- the storage of the most recently declared name
abbrev pub storage_in : Meaning → Storage
storage_in (an_object what t) = what
storage_in (an_array_parameter n t) = typed.parameter n
storage_in (a_function f) = typed.static 0
storage_in (an_enumerator v) = typed.static 0

abbrev pub storage_of : Option Binding → Storage
storage_of None = typed.static 0
storage_of (Some b) = storage_in b.meaning

-- its type: with an earlier declaration the composite type (6.2.7p4)
abbrev pub type_of_meaning : DeclaredType → Meaning → DeclaredType
type_of_meaning t (an_object what u) = u
type_of_meaning t m = t

abbrev pub type_of_binding : DeclaredType → Option Binding → DeclaredType
type_of_binding t None = t
type_of_binding t (Some b) = type_of_meaning t b.meaning

abbrev pub put_object : List ObjectType → ℕ → ObjectType → List ObjectType
put_object [] n t = t ∷ []
put_object (u ∷ us) zero t = t ∷ us
put_object (u ∷ us) (suc n) t = u ∷ put_object us n t

-- an object of the present function, and one of a block that is static (6.2.4p3, p5)
abbrev pub with_automatic : Scope → ℕ → DeclaredType → Scope
with_automatic s n t =
    record (with_name s n (an_object (typed.automatic (length s.objects)) t) no_linkage defined) { objects = s.objects ++ completed t ∷ [] }

abbrev pub with_static : Scope → ℕ → DeclaredType → Scope
with_static s n t =
    record (with_name s n (an_object (typed.static (length s.statics)) t) no_linkage defined)
    { statics = s.statics ++ record { type = completed t; defined = true } ∷ [] }

-- in a block extern has no tree
abbrev pub block_object : Scope → Pos → ℕ → StorageClass → DeclaredType → Verdict Scope
block_object s at n no_class t = provided (fresh s at n) (fine (with_automatic s n t))
block_object s at n by_static t = provided (fresh s at n) (fine (with_static s n t))
block_object s at n by_extern t = breaks code.SyntaxError at

abbrev pub object_at : ℕ → Scope → Pos → ℕ → StorageClass → DeclaredType → Bool → Verdict Scope
object_at zero s at n class t initialised = file_object s at n class t (state_of_object class initialised)
object_at (suc level) s at n class t initialised = block_object s at n class t

abbrev pub begun : Scope → StorageClass → BaseType → Pos → ℕ → List (Option Tree) → Option Init → Verdict Begun
begun s class b at n sizes init =
    then_check (declared_type s at b sizes) (λ t.
    then_check (object_at s.level (with_literals s (strings_in_sizes sizes)) at n class t (has_init init)) (λ inner.
    fine (record {
      at = at;
      name = n;
      class = class;
      type = type_of_binding t (lookup inner n);
      what = storage_of (lookup inner n);
      init = init;
      scope = inner;
    })))

-- ---- the type once the initialiser is known (6.7p7, 6.7.9p22, 6.9.2p3)

abbrev pub text_or_form : Scope → Bool → Pos → Tree → Verdict ℕ
text_or_form s true at (string own n) = fine (length (literal_of s n) + 1)
text_or_form s characters at e = breaks code.BadInitialiserForm at

abbrev pub text_or_count : Scope → Bool → Pos → Option Tree → ℕ → Verdict ℕ
text_or_count s true at (Some e) n = text_or_form s true at e
text_or_count s characters at e zero = breaks code.BadInitialiserForm at
text_or_count s characters at e (suc n) = fine (suc n)

-- the length that an initialiser gives: that of its list, or of its characters and a zero
abbrev pub length_from : Scope → Pos → ObjectType → Init → Verdict ℕ
length_from s at t init_hole = breaks code.BadInitialiserForm at
length_from s at t (one_init e) = text_or_form s (has_characters t.element t.lengths) at e
length_from s at t (braced_init p parts) = text_or_count s (has_characters t.element t.lengths) p (text_alone parts) (count_of parts)

-- the meaning with the composite of the declared type and the type so far
abbrev pub retyped_meaning : Pos → DeclaredType → Meaning → Verdict Meaning
retyped_meaning at t (an_object what u) = compatible at (object_with what (composite u t))
retyped_meaning at t m = fine m

abbrev pub with_storage_type : Scope → Meaning → Scope
with_storage_type s (an_object (typed.static n) t) = record s { statics = put_static s.statics n (record { type = completed t; defined = true }) }
with_storage_type s (an_object (typed.automatic n) t) = record s { objects = put_object s.objects n (completed t) }
with_storage_type s m = s

abbrev pub retyped : Scope → Pos → DeclaredType → ℕ → Option Binding → Verdict Scope
retyped s at t n None = fine s
retyped s at t n (Some b) = then_check (retyped_meaning at t b.meaning) (λ m. fine (with_storage_type (with_name s n m b.linkage b.state) m))

-- an array of unknown size without an initialiser: at file scope, without static, its size may follow
abbrev pub left_unknown : ℕ → StorageClass → Pos → Scope → Verdict Scope
left_unknown zero by_static at s = breaks code.IncompleteObject at
left_unknown zero class at s = fine s
left_unknown (suc level) class at s = breaks code.IncompleteObject at

abbrev pub sized : Scope → Pos → ℕ → ObjectType → ℕ → Verdict Scope
sized s at name t n = provided (too_large at (array_of n t)) (retyped s at (complete (array_of n t)) name (lookup s name))

abbrev pub finished_with : Begun → DeclaredType → Option Init → Verdict Scope
finished_with b (complete t) None = fine b.scope
finished_with b (complete t) (Some i) = fine (past_init b.scope i)
finished_with b (unknown_size t) None = left_unknown b.scope.level b.class b.at b.scope
finished_with b (unknown_size t) (Some i) = then_check (length_from b.scope b.at t i) (sized (past_init b.scope i) b.at b.name t)

-- the scope after the declarator and its initialiser, which is examined only for a size that it gives
abbrev pub finished : Begun → Verdict Scope
finished b = finished_with b b.type b.init

-- ---- the effect of a declarator: a statement of the block, or the first values of an object with static storage

pub record Initial : Type 0 where
  pub static : ℕ
  pub values : List ℤ

pub record Effects : Type 0 where
  pub statements : List (typed.Statement)
  pub initial : List Initial

abbrev pub no_effects : Effects
no_effects = record { statements = []; initial = [] }

abbrev pub wanted_by : DeclaredType → Wanted
wanted_by (complete t) = wanted t.lengths
wanted_by (unknown_size t) = an_array None t.lengths

abbrev pub element_of : DeclaredType → IntType
element_of (complete t) = t.element
element_of (unknown_size t) = t.element

-- the lengths of an array as far as values are laid out in it; the number of parts of the outermost does not matter
abbrev pub lengths_of : DeclaredType → List ℕ
lengths_of (complete t) = t.lengths
lengths_of (unknown_size t) = 1 ∷ t.lengths

abbrev pub initialiser_of : Begun → Init → Verdict Initialiser
initialiser_of b i = initialiser b.scope b.at (element_of b.type) (wanted_by b.type) true i

abbrev pub static_values : Begun → ℕ → Init → Verdict Effects
static_values b n i =
    then_check (constant_parts b.scope (element_of b.type) (wanted_by b.type) i) (λ u.
    then_check (initialiser_of b i) (λ x.
    then_check (values (past_init b.scope i) (element_of b.type) (lengths_of b.type) x) (λ vs.
    fine (record { statements = []; initial = record { static = n; values = vs } ∷ [] }))))

abbrev pub definition_of : ℕ → Initialiser → Verdict Effects
definition_of n x = fine (record { statements = typed.define n x ∷ []; initial = [] })

abbrev pub initialised_as : Begun → Storage → Option Init → Verdict Effects
initialised_as b (typed.static n) None = fine no_effects
initialised_as b (typed.static n) (Some i) = static_values b n i
initialised_as b (typed.automatic n) None = fine (record { statements = typed.declare n ∷ []; initial = [] })
initialised_as b (typed.automatic n) (Some i) = then_check (initialiser_of b i) (definition_of n)
initialised_as b what init = fine no_effects

abbrev pub initialised : Begun → Verdict Effects
initialised b = initialised_as b b.what b.init

-- ---- declarators in order

abbrev pub function_at : ℕ → Scope → StorageClass → BaseType → Pos → ℕ → List ParameterTree → Verdict Scope
function_at zero s class b at n ps =
    then_check (parameters_in s ps) (λ p. file_function (behind_parameters s p.scope) at n class (function_type b p.types) mentioned)
function_at (suc level) s class b at n ps = breaks code.SyntaxError at

-- the scope after declarators, whose initialisers are examined only for sizes
abbrev pub items_declared : Scope → StorageClass → BaseType → List ItemTree → Verdict Scope
items_declared s class b [] = fine s
items_declared s class b (object at n sizes init ∷ is) =
    then_check (begun s class b at n sizes init) (λ o. then_check (finished o) (λ inner. items_declared inner class b is))
items_declared s class b (function at n ps ∷ is) = then_check (function_at s.level s class b at n ps) (λ inner. items_declared inner class b is)

-- the result of a declaration: the scope after it, and its effects
pub record Declared : Type 0 where
  pub scope : Scope
  pub effects : Effects

abbrev pub and_effects : Effects → Effects → Effects
and_effects a b = record { statements = a.statements ++ b.statements; initial = a.initial ++ b.initial }

abbrev pub before_others : Effects → Declared → Verdict Declared
before_others a d = fine (record { scope = d.scope; effects = and_effects a d.effects })

abbrev pub items_typed : Scope → StorageClass → BaseType → List ItemTree → Verdict Declared
items_typed s class b [] = fine (record { scope = s; effects = no_effects })
items_typed s class b (object at n sizes init ∷ is) =
    then_check (begun s class b at n sizes init) (λ o.
    both (initialised o) (then_check (finished o) (λ inner. items_typed inner class b is)) before_others)
items_typed s class b (function at n ps ∷ is) = then_check (function_at s.level s class b at n ps) (λ inner. items_typed inner class b is)

-- ---- declarations

abbrev pub has_items : List ItemTree → Bool
has_items [] = false
has_items (i ∷ is) = true

-- 6.7p2: a declarator, or enumerators; a tag alone is not declared again by its name (6.7.2.3p9)
abbrev pub declares_nothing : List SpecifierTree → List ItemTree → Bool
declares_nothing ss is = nat_eq (lists_in ss) 0 && not (has_items is)

abbrev pub specified_for : Scope → Pos → List SpecifierTree → List ItemTree → Verdict Specified
specified_for s at ss items = then_check (specified s at ss) (λ d. provided (refuse_if (declares_nothing ss items) code.DeclaresNothing at) (fine d))

-- 6.7.10p3
abbrev pub asserted : Scope → Pos → Tree → Verdict Scope
asserted s at e = then_check (constant_value s e) (λ c. provided (refuse_if (not (truth c.v)) code.StaticAssertionFailed at) (fine (past s e)))

-- the scope after a declaration, whose initialisers are examined only for sizes
abbrev pub scope_after : Scope → DeclarationTree → Verdict Scope
scope_after s (declared at ss items) =
    then_check (specified_for s at ss items) (λ d. items_declared d.scope d.class d.base items)
scope_after s (assertion at e text) = asserted s at e

-- a declaration: the scope after it, and its effects
abbrev pub declaration_typed : Scope → DeclarationTree → Verdict Declared
declaration_typed s (declared at ss items) =
    then_check (specified_for s at ss items) (λ d. items_typed d.scope d.class d.base items)
declaration_typed s (assertion at e text) = then_check (asserted s at e) (λ inner. fine (record { scope = inner; effects = no_effects }))
