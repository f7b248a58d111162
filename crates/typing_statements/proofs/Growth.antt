-- A declaration keeps the names and tags of a scope, after newer ones.
use Rattle.std.proofs.Common.{◌≡◌, ℕ, zero, suc, ◌+◌, ◌+ℤ◌, ℤ, pos, Bool, true, false, not, length, List, [], ◌∷◌, ◌++◌, Option, Some, None, refl, sym, ap, ◌∙◌, append_assoc}
use Rattle.srcset.specs.declared.code.Code.TheVariants as code
use Rattle.srcset.specs.declared.refusal.Pos.{Pos}
use Rattle.tree.specs.Tree.{Tree, Init, EnumeratorTree, SpecifierTree, extern_specifier, static_specifier, plain_specifier, enumerators_specifier, ParameterTree, ItemTree, object, function, DeclarationTree, declared, assertion}
use Rattle.typing_spec.specs.Types.{ObjectType, DeclaredType, complete, unknown_size, FunctionType, array_of}
use Rattle.typing_spec.specs.Verdict.{Verdict, fine, broken, then_check, both, provided, refuse_if, IfFine}
use Rattle.typing_spec.specs.Program as program
use Rattle.typing_spec.specs.Scope.{Scope, Binding, Tag, Meaning, an_object, an_array_parameter, a_function, an_enumerator, Linkage, State, mentioned, no_linkage, defined, lookup, tag_in, with_name, with_tag, with_literals, past, built_in}
use Rattle.typing_spec.specs.Specifiers.{BaseType}
use Rattle.ctypes.specs.Types.{truth}
use Rattle.typing_spec.specs.Expressions.{constant_value, too_large}
use Rattle.typing_spec.specs.Initialisers.{past_init}
use Rattle.typing_spec.specs.Declarators.{declared_type, strings_in_sizes, parameters_in, behind_parameters, function_type, fresh, Parameters}
use Rattle.typing_spec.specs.Linkage.{StorageClass, no_class, by_extern, by_static, state_of_object, Agreed, agreed, storage_before, linkage_of_object, linkage_of_function, as_built_in, redeclared, declared_at_file, file_function, agreed_in, with_storage}
use Rattle.typing_spec.specs.Declarations as typed
use Rattle.typing_spec.specs.Declarations.{Begun, Specified, Declared, Effects}

-- newer names and tags precede those of the old scope
pub record Grows (old new : Scope) : Type 0 where
  pub names : List Binding
  pub tags : List Tag
  pub names_are : new.bindings ≡ names ++ old.bindings
  pub tags_are : new.tags ≡ tags ++ old.tags

pub same_names : (a b : Scope) → b.bindings ≡ a.bindings → b.tags ≡ a.tags → Grows a b
same_names a b e f = record { names = []; tags = []; names_are = e; tags_are = f }

pub stays : (s : Scope) → Grows s s
stays s = same_names s s refl refl

pub onwards : (a b c : Scope) → Grows a b → Grows b c → Grows a c
onwards a b c p q = record {
  names = q.names ++ p.names;
  tags = q.tags ++ p.tags;
  names_are = q.names_are ∙ ap (λ l. q.names ++ l) p.names_are ∙ sym (append_assoc q.names p.names a.bindings);
  tags_are = q.tags_are ∙ ap (λ l. q.tags ++ l) p.tags_are ∙ sym (append_assoc q.tags p.tags a.tags);
}

pub one_name : (s : Scope) (n : ℕ) (m : Meaning) (l : Linkage) (state : State) → Grows s (with_name s n m l state)
one_name s n m l state = record { names = record { name = n; level = s.level; meaning = m; linkage = l; state = state } ∷ []; tags = []; names_are = refl; tags_are = refl }

pub one_tag : (s : Scope) (n : ℕ) (c : Bool) → Grows s (with_tag s n c)
one_tag s n c = record { names = []; tags = record { name = n; level = s.level; complete = c } ∷ []; names_are = refl; tags_are = refl }

-- ---- verdicts

pub then_any : {A B : Type 0} (Q : B → Type 0) (v : Verdict A) (go : A → Verdict B) → ((a : A) → IfFine Q (go a)) → IfFine Q (then_check v go)
then_any Q (fine a) go h = h a
then_any Q (broken vs) go h = tt

pub then_some : {A B : Type 0} (P : A → Type 0) (Q : B → Type 0) (v : Verdict A) (go : A → Verdict B) → IfFine P v → ((a : A) → P a → IfFine Q (go a)) → IfFine Q (then_check v go)
then_some P Q (fine a) go g h = h a g
then_some P Q (broken vs) go g h = tt

pub both_any : {A B C : Type 0} (Q : B → Type 0) (R : C → Type 0) (v : Verdict A) (w : Verdict B) (go : A → B → Verdict C) → IfFine Q w → ((a : A) (b : B) → Q b → IfFine R (go a b)) → IfFine R (both v w go)
both_any Q R (fine a) w go g h = then_some Q R w (go a) g (h a)
both_any Q R (broken vs) w go g h = tt

pub part : {A : Type 0} (P : A → Type 0) (test : Verdict (Unit {0})) (v : Verdict A) → IfFine P v → IfFine P (provided test v)
part P test v h = both_any P P test v (λ u a. fine a) h (λ u a p. p)

pub more_of : {A : Type 0} (P Q : A → Type 0) (v : Verdict A) → ((a : A) → P a → Q a) → IfFine P v → IfFine Q v
more_of P Q (fine a) f h = f a h
more_of P Q (broken vs) f h = tt

-- a scope that grows from a later scope
pub further : (a b : Scope) (v : Verdict Scope) → Grows a b → IfFine (Grows b) v → IfFine (Grows a) v
further a b v g h = more_of (Grows b) (Grows a) v (λ c k. onwards a b c g k) h

-- ---- specifiers

past_more : (s : Scope) (e : Option Tree) → Grows s (typed.past_option s e)
past_more s None = stays s
past_more s (Some e) = same_names s (past s e) refl refl

enumerators_more : (s : Scope) (next : ℤ) (es : List EnumeratorTree) → IfFine (Grows s) (typed.enumerators s next es)
enumerators_more s next [] = stays s
enumerators_more s next (e ∷ es) =
    then_any (Grows s) (provided (typed.fresh_enumerator s e.at e.name) (typed.value_of_enumerator s next e.at e.value))
    (λ v. typed.enumerators (with_name (typed.past_option s e.value) e.name (an_enumerator v) no_linkage defined) (v +ℤ pos 1) es) (λ v.
    let inner = with_name (typed.past_option s e.value) e.name (an_enumerator v) no_linkage defined in
    further s inner (typed.enumerators inner (v +ℤ pos 1) es)
    (onwards s (typed.past_option s e.value) inner (past_more s e.value) (one_name (typed.past_option s e.value) e.name (an_enumerator v) no_linkage defined))
    (enumerators_more inner (v +ℤ pos 1) es))

enumerated_more : (s : Scope) (at : Pos) (tag : Option ℕ) (es : List EnumeratorTree) → IfFine (Grows s) (typed.enumerated s at tag es)
enumerated_more s at None es = enumerators_more s (pos 0) es
enumerated_more s at (Some t) es =
    part (Grows s) (typed.is_fresh_tag s.level at (tag_in s.tags t)) (then_check (typed.enumerators (with_tag s t false) (pos 0) es) (λ inner. fine (with_tag inner t true)))
    (then_some (Grows (with_tag s t false)) (Grows s) (typed.enumerators (with_tag s t false) (pos 0) es) (λ inner. fine (with_tag inner t true)) (enumerators_more (with_tag s t false) (pos 0) es) (λ inner g.
    onwards s inner (with_tag inner t true) (onwards s (with_tag s t false) inner (one_tag s t false) g) (one_tag inner t true)))

lists_more : (s : Scope) (at : Pos) (ss : List SpecifierTree) → IfFine (Grows s) (typed.with_lists s at ss)
lists_more s at [] = stays s
lists_more s at (extern_specifier ∷ ss) = lists_more s at ss
lists_more s at (static_specifier ∷ ss) = lists_more s at ss
lists_more s at (plain_specifier t ∷ ss) = lists_more s at ss
lists_more s at (enumerators_specifier tag list ∷ ss) =
    then_some (Grows s) (Grows s) (typed.enumerated s at tag list) (λ inner. typed.with_lists inner at ss) (enumerated_more s at tag list) (λ inner g.
    further s inner (typed.with_lists inner at ss) g (lists_more inner at ss))

abbrev said_in : Scope → Specified → Type 0
said_in s d = Grows s d.scope

specified_more : (s : Scope) (at : Pos) (ss : List SpecifierTree) → IfFine (said_in s) (typed.specified s at ss)
specified_more s at ss =
    then_some (Grows s) (said_in s) (typed.with_lists s at ss)
    (λ inner. both (typed.class_of at (typed.classes_of ss)) (typed.base_in inner at (typed.lists_in ss) (typed.plain_of ss)) (λ c b. fine (record { class = c; base = b; scope = inner }))) (lists_more s at ss) (λ inner g.
    both_any (λ b. Unit {0}) (said_in s) (typed.class_of at (typed.classes_of ss)) (typed.base_in inner at (typed.lists_in ss) (typed.plain_of ss)) (λ c b. fine (record { class = c; base = b; scope = inner }))
    (anything (typed.base_in inner at (typed.lists_in ss) (typed.plain_of ss))) (λ c b u. g))
  where
    anything : {A : Type 0} (v : Verdict A) → IfFine (λ a. Unit {0}) v
    anything (fine a) = tt
    anything (broken vs) = tt

specified_for_more : (s : Scope) (at : Pos) (ss : List SpecifierTree) (items : List ItemTree) → IfFine (said_in s) (typed.specified_for s at ss items)
specified_for_more s at ss items =
    then_some (said_in s) (said_in s) (typed.specified s at ss) (λ d. provided (refuse_if (typed.declares_nothing ss items) code.DeclaresNothing at) (fine d)) (specified_more s at ss) (λ d g.
    part (said_in s) (refuse_if (typed.declares_nothing ss items) code.DeclaresNothing at) (fine d) g)

-- ---- declarators

storage_more : (s : Scope) (state : State) (m : Meaning) → Grows s (with_storage s state m)
storage_more s state (an_object (program.static n) t) = same_names s (with_storage s state (an_object (program.static n) t)) refl refl
storage_more s state (an_object (program.literal n) t) = stays s
storage_more s state (an_object (program.automatic n) t) = stays s
storage_more s state (an_object (program.parameter n) t) = stays s
storage_more s state (an_array_parameter n t) = stays s
storage_more s state (a_function f) = stays s
storage_more s state (an_enumerator v) = stays s

at_file_more : (s : Scope) (at : Pos) (n : ℕ) (new : Agreed) → IfFine (Grows s) (declared_at_file s at n new)
at_file_more s at n new =
    part (Grows s) (as_built_in at new (built_in s n)) (then_check (redeclared at new (lookup s n)) (agreed_in s n))
    (then_any (Grows s) (redeclared at new (lookup s n)) (agreed_in s n) (λ a.
    let inner = with_name s n a.meaning a.linkage a.state in
    onwards s inner (with_storage inner a.state a.meaning) (one_name s n a.meaning a.linkage a.state) (storage_more inner a.state a.meaning)))

automatic_more : (s : Scope) (n : ℕ) (t : DeclaredType) → Grows s (typed.with_automatic s n t)
automatic_more s n t =
    let inner = with_name s n (an_object (program.automatic (length s.objects)) t) no_linkage defined in
    onwards s inner (typed.with_automatic s n t) (one_name s n (an_object (program.automatic (length s.objects)) t) no_linkage defined) (same_names inner (typed.with_automatic s n t) refl refl)

static_more : (s : Scope) (n : ℕ) (t : DeclaredType) → Grows s (typed.with_static s n t)
static_more s n t =
    let inner = with_name s n (an_object (program.static (length s.statics)) t) no_linkage defined in
    onwards s inner (typed.with_static s n t) (one_name s n (an_object (program.static (length s.statics)) t) no_linkage defined) (same_names inner (typed.with_static s n t) refl refl)

block_more : (s : Scope) (at : Pos) (n : ℕ) (class : StorageClass) (t : DeclaredType) → IfFine (Grows s) (typed.block_object s at n class t)
block_more s at n no_class t = part (Grows s) (fresh s at n) (fine (typed.with_automatic s n t)) (automatic_more s n t)
block_more s at n by_static t = part (Grows s) (fresh s at n) (fine (typed.with_static s n t)) (static_more s n t)
block_more s at n by_extern t = tt

object_more : (level : ℕ) (s : Scope) (at : Pos) (n : ℕ) (class : StorageClass) (t : DeclaredType) (initialised : Bool) → IfFine (Grows s) (typed.object_at level s at n class t initialised)
object_more zero s at n class t initialised =
    at_file_more s at n (agreed (an_object (storage_before s (lookup s n)) t) (linkage_of_object class (lookup s n)) (state_of_object class initialised))
object_more (suc level) s at n class t initialised = block_more s at n class t

abbrev begun_in : Scope → Begun → Type 0
begun_in s b = Grows s b.scope

begun_more : (s : Scope) (class : StorageClass) (b : BaseType) (at : Pos) (n : ℕ) (sizes : List (Option Tree)) (init : Option Init) → IfFine (begun_in s) (typed.begun s class b at n sizes init)
begun_more s class b at n sizes init =
    then_any (begun_in s) (declared_type s at b sizes) _ (λ t.
    let inner = with_literals s (strings_in_sizes sizes) in
    then_some (Grows inner) (begun_in s) (typed.object_at s.level inner at n class t (typed.has_init init)) _ (object_more s.level inner at n class t (typed.has_init init)) (λ x g.
    onwards s inner x (same_names s inner refl refl) g))

storage_type_more : (s : Scope) (m : Meaning) → Grows s (typed.with_storage_type s m)
storage_type_more s (an_object (program.static n) t) = same_names s (typed.with_storage_type s (an_object (program.static n) t)) refl refl
storage_type_more s (an_object (program.automatic n) t) = same_names s (typed.with_storage_type s (an_object (program.automatic n) t)) refl refl
storage_type_more s (an_object (program.literal n) t) = stays s
storage_type_more s (an_object (program.parameter n) t) = stays s
storage_type_more s (an_array_parameter n t) = stays s
storage_type_more s (a_function f) = stays s
storage_type_more s (an_enumerator v) = stays s

retyped_more : (s : Scope) (at : Pos) (t : DeclaredType) (n : ℕ) (b : Option Binding) → IfFine (Grows s) (typed.retyped s at t n b)
retyped_more s at t n None = stays s
retyped_more s at t n (Some b) =
    then_any (Grows s) (typed.retyped_meaning at t b.meaning) (λ m. fine (typed.with_storage_type (with_name s n m b.linkage b.state) m)) (λ m.
    onwards s (with_name s n m b.linkage b.state) (typed.with_storage_type (with_name s n m b.linkage b.state) m) (one_name s n m b.linkage b.state) (storage_type_more (with_name s n m b.linkage b.state) m))

unknown_more : (level : ℕ) (class : StorageClass) (at : Pos) (s : Scope) → IfFine (Grows s) (typed.left_unknown level class at s)
unknown_more zero by_static at s = tt
unknown_more zero by_extern at s = stays s
unknown_more zero no_class at s = stays s
unknown_more (suc level) class at s = tt

sized_more : (s : Scope) (at : Pos) (n : ℕ) (t : ObjectType) (k : ℕ) → IfFine (Grows s) (typed.sized s at n t k)
sized_more s at n t k = part (Grows s) (too_large at (array_of k t)) (typed.retyped s at (complete (array_of k t)) n (lookup s n)) (retyped_more s at (complete (array_of k t)) n (lookup s n))

finished_with_more : (b : Begun) (t : DeclaredType) (i : Option Init) → IfFine (Grows b.scope) (typed.finished_with b t i)
finished_with_more b (complete t) None = stays b.scope
finished_with_more b (complete t) (Some i) = same_names b.scope (past_init b.scope i) refl refl
finished_with_more b (unknown_size t) None = unknown_more b.scope.level b.class b.at b.scope
finished_with_more b (unknown_size t) (Some i) =
    then_any (Grows b.scope) (typed.length_from b.scope b.at t i) (typed.sized (past_init b.scope i) b.at b.name t) (λ n.
    further b.scope (past_init b.scope i) (typed.sized (past_init b.scope i) b.at b.name t n) (same_names b.scope (past_init b.scope i) refl refl) (sized_more (past_init b.scope i) b.at b.name t n))

function_more : (level : ℕ) (s : Scope) (class : StorageClass) (b : BaseType) (at : Pos) (n : ℕ) (ps : List ParameterTree) → IfFine (Grows s) (typed.function_at level s class b at n ps)
function_more zero s class b at n ps =
    then_any (Grows s) (parameters_in s ps) _ (λ (p : Parameters).
    let inner = behind_parameters s p.scope in
    further s inner (file_function inner at n class (function_type b p.types) mentioned) (same_names s inner refl refl) (at_file_more inner at n (agreed (a_function (function_type b p.types)) (linkage_of_function class (lookup inner n)) mentioned)))
function_more (suc level) s class b at n ps = tt

-- ---- declarations

abbrev declared_in : Scope → Declared → Type 0
declared_in s d = Grows s d.scope

declared_further : (a b : Scope) (v : Verdict Declared) → Grows a b → IfFine (declared_in b) v → IfFine (declared_in a) v
declared_further a b v g h = more_of (declared_in b) (declared_in a) v (λ d k. onwards a b d.scope g k) h

items_more : (s : Scope) (class : StorageClass) (b : BaseType) (is : List ItemTree) → IfFine (declared_in s) (typed.items_typed s class b is)
items_more s class b [] = stays s
items_more s class b (object at n sizes init ∷ is) =
    then_some (begun_in s) (declared_in s) (typed.begun s class b at n sizes init) _ (begun_more s class b at n sizes init) (λ o g.
    both_any (declared_in s) (declared_in s) (typed.initialised o) (then_check (typed.finished o) (λ inner. typed.items_typed inner class b is)) typed.before_others
    (then_some (Grows o.scope) (declared_in s) (typed.finished o) (λ inner. typed.items_typed inner class b is) (finished_with_more o o.type o.init) (λ inner k.
    declared_further s inner (typed.items_typed inner class b is) (onwards s o.scope inner g k) (items_more inner class b is)))
    (λ a d k. k))
items_more s class b (function at n ps ∷ is) =
    then_some (Grows s) (declared_in s) (typed.function_at s.level s class b at n ps) (λ inner. typed.items_typed inner class b is) (function_more s.level s class b at n ps) (λ inner g.
    declared_further s inner (typed.items_typed inner class b is) g (items_more inner class b is))

pub declaration_more : (s : Scope) (d : DeclarationTree) → IfFine (declared_in s) (typed.declaration_typed s d)
declaration_more s (declared at ss items) =
    then_some (said_in s) (declared_in s) (typed.specified_for s at ss items) (λ d. typed.items_typed d.scope d.class d.base items) (specified_for_more s at ss items) (λ d g.
    declared_further s d.scope (typed.items_typed d.scope d.class d.base items) g (items_more d.scope d.class d.base items))
declaration_more s (assertion at e text) =
    then_some (Grows s) (declared_in s) (typed.asserted s at e) (λ inner. fine (record { scope = inner; effects = typed.no_effects }))
    (then_any (Grows s) (constant_value s e) (λ c. provided (refuse_if (not (truth c.v)) code.StaticAssertionFailed at) (fine (past s e))) (λ c.
    part (Grows s) (refuse_if (not (truth c.v)) code.StaticAssertionFailed at) (fine (past s e)) (same_names s (past s e) refl refl)))
    (λ inner g. g)
