-- A declaration keeps the definitions of its unit that a scope has.
use Rattle.std.proofs.Common.{◌≡◌, ℕ, zero, suc, ◌+◌, ◌+ℤ◌, ℤ, pos, Bool, true, false, not, length, List, [], ◌∷◌, ◌++◌, Option, Some, None, refl, sym, ap, ◌∙◌, append_assoc}
use Rattle.srcset.specs.declared.code.Code.TheVariants as code
use Rattle.srcset.specs.declared.refusal.Pos.{Pos}
use Rattle.tree.specs.Tree.{Tree, Init, EnumeratorTree, SpecifierTree, extern_specifier, static_specifier, plain_specifier, enumerators_specifier, ParameterTree, ItemTree, object, function, DeclarationTree, declared, assertion}
use Rattle.typing_spec.specs.Types.{ObjectType, DeclaredType, complete, unknown_size, FunctionType, array_of}
use Rattle.typing_spec.specs.Verdict.{Verdict, fine, broken, then_check, both, provided, refuse_if, IfFine}
use Rattle.typing_spec.specs.Program as program
use Rattle.typing_spec.specs.Scope.{Scope, Binding, Tag, Meaning, an_object, an_array_parameter, a_function, an_enumerator, Linkage, State, mentioned, no_linkage, defined, lookup, tag_in, with_name, with_tag, with_literals, past, built_in}
use Rattle.typing_spec.specs.Specifiers.{BaseType}
use Rattle.ctypes.specs.Types.{truth}
use Rattle.typing_spec.specs.Expressions.{constant_value, too_large}
use Rattle.typing_spec.specs.Initialisers.{past_init}
use Rattle.typing_spec.specs.Declarators.{declared_type, strings_in_sizes, parameters_in, behind_parameters, function_type, fresh, Parameters}
use Rattle.typing_spec.specs.Linkage.{StorageClass, no_class, by_extern, by_static, state_of_object, Agreed, agreed, storage_before, linkage_of_object, linkage_of_function, as_built_in, redeclared, declared_at_file, file_function, agreed_in, with_storage}
use Rattle.typing_statements.proofs.Growth.{then_any, then_some, both_any, part, more_of}
use Rattle.typing_spec.specs.Declarations as typed
use Rattle.typing_spec.specs.Declarations.{Begun, Specified, Declared, Effects}

-- the definitions of the unit are those of the scope before
abbrev pub Keeps : (old new : Scope) → Type 0
Keeps old new = new.definitions ≡ old.definitions

pub same : (a b : Scope) → b.definitions ≡ a.definitions → Keeps a b
same a b e = e

pub stays : (s : Scope) → Keeps s s
stays s = refl

pub onwards : (a b c : Scope) → Keeps a b → Keeps b c → Keeps a c
onwards a b c p q = q ∙ p

one_name : (s : Scope) (n : ℕ) (m : Meaning) (l : Linkage) (state : State) → Keeps s (with_name s n m l state)
one_name s n m l state = refl

one_tag : (s : Scope) (n : ℕ) (c : Bool) → Keeps s (with_tag s n c)
one_tag s n c = refl

-- the result after a scope that keeps the definitions
pub behind : (a b : Scope) (v : Verdict Scope) → Keeps a b → IfFine (Keeps b) v → IfFine (Keeps a) v
behind a b v g h = more_of (Keeps b) (Keeps a) v (λ c k. onwards a b c g k) h

-- ---- specifiers

past_keeps : (s : Scope) (e : Option Tree) → Keeps s (typed.past_option s e)
past_keeps s None = stays s
past_keeps s (Some e) = same s (past s e) refl

enumerators_keeps : (s : Scope) (next : ℤ) (es : List EnumeratorTree) → IfFine (Keeps s) (typed.enumerators s next es)
enumerators_keeps s next [] = stays s
enumerators_keeps s next (e ∷ es) =
    then_any (Keeps s) (provided (typed.fresh_enumerator s e.at e.name) (typed.value_of_enumerator s next e.at e.value))
    (λ v. typed.enumerators (with_name (typed.past_option s e.value) e.name (an_enumerator v) no_linkage defined) (v +ℤ pos 1) es) (λ v.
    let inner = with_name (typed.past_option s e.value) e.name (an_enumerator v) no_linkage defined in
    behind s inner (typed.enumerators inner (v +ℤ pos 1) es)
    (onwards s (typed.past_option s e.value) inner (past_keeps s e.value) (one_name (typed.past_option s e.value) e.name (an_enumerator v) no_linkage defined))
    (enumerators_keeps inner (v +ℤ pos 1) es))

enumerated_keeps : (s : Scope) (at : Pos) (tag : Option ℕ) (es : List EnumeratorTree) → IfFine (Keeps s) (typed.enumerated s at tag es)
enumerated_keeps s at None es = enumerators_keeps s (pos 0) es
enumerated_keeps s at (Some t) es =
    part (Keeps s) (typed.is_fresh_tag s.level at (tag_in s.tags t)) (then_check (typed.enumerators (with_tag s t false) (pos 0) es) (λ inner. fine (with_tag inner t true)))
    (then_some (Keeps (with_tag s t false)) (Keeps s) (typed.enumerators (with_tag s t false) (pos 0) es) (λ inner. fine (with_tag inner t true)) (enumerators_keeps (with_tag s t false) (pos 0) es) (λ inner g.
    onwards s inner (with_tag inner t true) (onwards s (with_tag s t false) inner (one_tag s t false) g) (one_tag inner t true)))

lists_keeps : (s : Scope) (at : Pos) (ss : List SpecifierTree) → IfFine (Keeps s) (typed.with_lists s at ss)
lists_keeps s at [] = stays s
lists_keeps s at (extern_specifier ∷ ss) = lists_keeps s at ss
lists_keeps s at (static_specifier ∷ ss) = lists_keeps s at ss
lists_keeps s at (plain_specifier t ∷ ss) = lists_keeps s at ss
lists_keeps s at (enumerators_specifier tag list ∷ ss) =
    then_some (Keeps s) (Keeps s) (typed.enumerated s at tag list) (λ inner. typed.with_lists inner at ss) (enumerated_keeps s at tag list) (λ inner g.
    behind s inner (typed.with_lists inner at ss) g (lists_keeps inner at ss))

abbrev said_in : Scope → Specified → Type 0
said_in s d = Keeps s d.scope

specified_keeps : (s : Scope) (at : Pos) (ss : List SpecifierTree) → IfFine (said_in s) (typed.specified s at ss)
specified_keeps s at ss =
    then_some (Keeps s) (said_in s) (typed.with_lists s at ss)
    (λ inner. both (typed.class_of at (typed.classes_of ss)) (typed.base_in inner at (typed.lists_in ss) (typed.plain_of ss)) (λ c b. fine (record { class = c; base = b; scope = inner }))) (lists_keeps s at ss) (λ inner g.
    both_any (λ b. Unit {0}) (said_in s) (typed.class_of at (typed.classes_of ss)) (typed.base_in inner at (typed.lists_in ss) (typed.plain_of ss)) (λ c b. fine (record { class = c; base = b; scope = inner }))
    (anything (typed.base_in inner at (typed.lists_in ss) (typed.plain_of ss))) (λ c b u. g))
  where
    anything : {A : Type 0} (v : Verdict A) → IfFine (λ a. Unit {0}) v
    anything (fine a) = tt
    anything (broken vs) = tt

specified_for_keeps : (s : Scope) (at : Pos) (ss : List SpecifierTree) (items : List ItemTree) → IfFine (said_in s) (typed.specified_for s at ss items)
specified_for_keeps s at ss items =
    then_some (said_in s) (said_in s) (typed.specified s at ss) (λ d. provided (refuse_if (typed.declares_nothing ss items) code.DeclaresNothing at) (fine d)) (specified_keeps s at ss) (λ d g.
    part (said_in s) (refuse_if (typed.declares_nothing ss items) code.DeclaresNothing at) (fine d) g)

-- ---- declarators

storage_keeps : (s : Scope) (state : State) (m : Meaning) → Keeps s (with_storage s state m)
storage_keeps s state (an_object (program.static n) t) = same s (with_storage s state (an_object (program.static n) t)) refl
storage_keeps s state (an_object (program.literal n) t) = stays s
storage_keeps s state (an_object (program.automatic n) t) = stays s
storage_keeps s state (an_object (program.parameter n) t) = stays s
storage_keeps s state (an_array_parameter n t) = stays s
storage_keeps s state (a_function f) = stays s
storage_keeps s state (an_enumerator v) = stays s

at_file_keeps : (s : Scope) (at : Pos) (n : ℕ) (new : Agreed) → IfFine (Keeps s) (declared_at_file s at n new)
at_file_keeps s at n new =
    part (Keeps s) (as_built_in at new (built_in s n)) (then_check (redeclared at new (lookup s n)) (agreed_in s n))
    (then_any (Keeps s) (redeclared at new (lookup s n)) (agreed_in s n) (λ a.
    let inner = with_name s n a.meaning a.linkage a.state in
    onwards s inner (with_storage inner a.state a.meaning) (one_name s n a.meaning a.linkage a.state) (storage_keeps inner a.state a.meaning)))

automatic_keeps : (s : Scope) (n : ℕ) (t : DeclaredType) → Keeps s (typed.with_automatic s n t)
automatic_keeps s n t =
    let inner = with_name s n (an_object (program.automatic (length s.objects)) t) no_linkage defined in
    onwards s inner (typed.with_automatic s n t) (one_name s n (an_object (program.automatic (length s.objects)) t) no_linkage defined) (same inner (typed.with_automatic s n t) refl)

static_keeps : (s : Scope) (n : ℕ) (t : DeclaredType) → Keeps s (typed.with_static s n t)
static_keeps s n t =
    let inner = with_name s n (an_object (program.static (length s.statics)) t) no_linkage defined in
    onwards s inner (typed.with_static s n t) (one_name s n (an_object (program.static (length s.statics)) t) no_linkage defined) (same inner (typed.with_static s n t) refl)

block_keeps : (s : Scope) (at : Pos) (n : ℕ) (class : StorageClass) (t : DeclaredType) → IfFine (Keeps s) (typed.block_object s at n class t)
block_keeps s at n no_class t = part (Keeps s) (fresh s at n) (fine (typed.with_automatic s n t)) (automatic_keeps s n t)
block_keeps s at n by_static t = part (Keeps s) (fresh s at n) (fine (typed.with_static s n t)) (static_keeps s n t)
block_keeps s at n by_extern t = tt

object_keeps : (level : ℕ) (s : Scope) (at : Pos) (n : ℕ) (class : StorageClass) (t : DeclaredType) (initialised : Bool) → IfFine (Keeps s) (typed.object_at level s at n class t initialised)
object_keeps zero s at n class t initialised =
    at_file_keeps s at n (agreed (an_object (storage_before s (lookup s n)) t) (linkage_of_object class (lookup s n)) (state_of_object class initialised))
object_keeps (suc level) s at n class t initialised = block_keeps s at n class t

abbrev begun_in : Scope → Begun → Type 0
begun_in s b = Keeps s b.scope

begun_keeps : (s : Scope) (class : StorageClass) (b : BaseType) (at : Pos) (n : ℕ) (sizes : List (Option Tree)) (init : Option Init) → IfFine (begun_in s) (typed.begun s class b at n sizes init)
begun_keeps s class b at n sizes init =
    then_any (begun_in s) (declared_type s at b sizes) _ (λ t.
    let inner = with_literals s (strings_in_sizes sizes) in
    then_some (Keeps inner) (begun_in s) (typed.object_at s.level inner at n class t (typed.has_init init)) _ (object_keeps s.level inner at n class t (typed.has_init init)) (λ x g.
    onwards s inner x (same s inner refl) g))

storage_type_keeps : (s : Scope) (m : Meaning) → Keeps s (typed.with_storage_type s m)
storage_type_keeps s (an_object (program.static n) t) = same s (typed.with_storage_type s (an_object (program.static n) t)) refl
storage_type_keeps s (an_object (program.automatic n) t) = same s (typed.with_storage_type s (an_object (program.automatic n) t)) refl
storage_type_keeps s (an_object (program.literal n) t) = stays s
storage_type_keeps s (an_object (program.parameter n) t) = stays s
storage_type_keeps s (an_array_parameter n t) = stays s
storage_type_keeps s (a_function f) = stays s
storage_type_keeps s (an_enumerator v) = stays s

retyped_keeps : (s : Scope) (at : Pos) (t : DeclaredType) (n : ℕ) (b : Option Binding) → IfFine (Keeps s) (typed.retyped s at t n b)
retyped_keeps s at t n None = stays s
retyped_keeps s at t n (Some b) =
    then_any (Keeps s) (typed.retyped_meaning at t b.meaning) (λ m. fine (typed.with_storage_type (with_name s n m b.linkage b.state) m)) (λ m.
    onwards s (with_name s n m b.linkage b.state) (typed.with_storage_type (with_name s n m b.linkage b.state) m) (one_name s n m b.linkage b.state) (storage_type_keeps (with_name s n m b.linkage b.state) m))

unknown_keeps : (level : ℕ) (class : StorageClass) (at : Pos) (s : Scope) → IfFine (Keeps s) (typed.left_unknown level class at s)
unknown_keeps zero by_static at s = tt
unknown_keeps zero by_extern at s = stays s
unknown_keeps zero no_class at s = stays s
unknown_keeps (suc level) class at s = tt

sized_keeps : (s : Scope) (at : Pos) (n : ℕ) (t : ObjectType) (k : ℕ) → IfFine (Keeps s) (typed.sized s at n t k)
sized_keeps s at n t k = part (Keeps s) (too_large at (array_of k t)) (typed.retyped s at (complete (array_of k t)) n (lookup s n)) (retyped_keeps s at (complete (array_of k t)) n (lookup s n))

finished_with_keeps : (b : Begun) (t : DeclaredType) (i : Option Init) → IfFine (Keeps b.scope) (typed.finished_with b t i)
finished_with_keeps b (complete t) None = stays b.scope
finished_with_keeps b (complete t) (Some i) = same b.scope (past_init b.scope i) refl
finished_with_keeps b (unknown_size t) None = unknown_keeps b.scope.level b.class b.at b.scope
finished_with_keeps b (unknown_size t) (Some i) =
    then_any (Keeps b.scope) (typed.length_from b.scope b.at t i) (typed.sized (past_init b.scope i) b.at b.name t) (λ n.
    behind b.scope (past_init b.scope i) (typed.sized (past_init b.scope i) b.at b.name t n) (same b.scope (past_init b.scope i) refl) (sized_keeps (past_init b.scope i) b.at b.name t n))

function_keeps : (level : ℕ) (s : Scope) (class : StorageClass) (b : BaseType) (at : Pos) (n : ℕ) (ps : List ParameterTree) → IfFine (Keeps s) (typed.function_at level s class b at n ps)
function_keeps zero s class b at n ps =
    then_any (Keeps s) (parameters_in s ps) _ (λ (p : Parameters).
    let inner = behind_parameters s p.scope in
    behind s inner (file_function inner at n class (function_type b p.types) mentioned) (same s inner refl) (at_file_keeps inner at n (agreed (a_function (function_type b p.types)) (linkage_of_function class (lookup inner n)) mentioned)))
function_keeps (suc level) s class b at n ps = tt

-- ---- declarations

abbrev declared_in : Scope → Declared → Type 0
declared_in s d = Keeps s d.scope

declared_behind : (a b : Scope) (v : Verdict Declared) → Keeps a b → IfFine (declared_in b) v → IfFine (declared_in a) v
declared_behind a b v g h = more_of (declared_in b) (declared_in a) v (λ d k. onwards a b d.scope g k) h

items_keeps : (s : Scope) (class : StorageClass) (b : BaseType) (is : List ItemTree) → IfFine (declared_in s) (typed.items_typed s class b is)
items_keeps s class b [] = stays s
items_keeps s class b (object at n sizes init ∷ is) =
    then_some (begun_in s) (declared_in s) (typed.begun s class b at n sizes init) _ (begun_keeps s class b at n sizes init) (λ o g.
    both_any (declared_in s) (declared_in s) (typed.initialised o) (then_check (typed.finished o) (λ inner. typed.items_typed inner class b is)) typed.before_others
    (then_some (Keeps o.scope) (declared_in s) (typed.finished o) (λ inner. typed.items_typed inner class b is) (finished_with_keeps o o.type o.init) (λ inner k.
    declared_behind s inner (typed.items_typed inner class b is) (onwards s o.scope inner g k) (items_keeps inner class b is)))
    (λ a d k. k))
items_keeps s class b (function at n ps ∷ is) =
    then_some (Keeps s) (declared_in s) (typed.function_at s.level s class b at n ps) (λ inner. typed.items_typed inner class b is) (function_keeps s.level s class b at n ps) (λ inner g.
    declared_behind s inner (typed.items_typed inner class b is) g (items_keeps inner class b is))

pub declaration_keeps : (s : Scope) (d : DeclarationTree) → IfFine (declared_in s) (typed.declaration_typed s d)
declaration_keeps s (declared at ss items) =
    then_some (said_in s) (declared_in s) (typed.specified_for s at ss items) (λ d. typed.items_typed d.scope d.class d.base items) (specified_for_keeps s at ss items) (λ d g.
    declared_behind s d.scope (typed.items_typed d.scope d.class d.base items) g (items_keeps d.scope d.class d.base items))
declaration_keeps s (assertion at e text) =
    then_some (Keeps s) (declared_in s) (typed.asserted s at e) (λ inner. fine (record { scope = inner; effects = typed.no_effects }))
    (then_any (Keeps s) (constant_value s e) (λ c. provided (refuse_if (not (truth c.v)) code.StaticAssertionFailed at) (fine (past s e))) (λ c.
    part (Keeps s) (refuse_if (not (truth c.v)) code.StaticAssertionFailed at) (fine (past s e)) (same s (past s e) refl)))
    (λ inner g. g)
