-- The entries of a scope are sized (6.7p7, 6.7.6.2p1, 6.9.2): objects of the function, those with static storage, and the meanings of names.
-- A declaration preserves that.
use Rattle.std.proofs.Common.{◌≡◌, ◌≤◌, ◌<◌, ℕ, zero, suc, ◌*◌, Bool, true, false, not, ◌&&◌, ℤ, pos, ◌+ℤ◌, nat_eq, List, [], ◌∷◌, ◌++◌, Option, Some, None, sym, subst, arith}
use Rattle.std.specs.Prelude.{if◌then◌else◌}
use Rattle.srcset.specs.declared.code.Code.TheVariants as code
use Rattle.srcset.specs.declared.refusal.Pos.{Pos}
use Rattle.ctypes.specs.Types.{truth, bytes_of}
use Rattle.tree.specs.Tree.{Tree, Init, EnumeratorTree, SpecifierTree, extern_specifier, static_specifier, plain_specifier, enumerators_specifier, ParameterTree, ItemTree, object, function, DeclarationTree, declared, assertion}
use Rattle.typing_spec.specs.Types.{ObjectType, DeclaredType, complete, unknown_size, FunctionType, elements_in, array_of, same_object, element_type, fits_unknown, composite, same_function}
use Rattle.typing_spec.specs.Program as typed
use Rattle.typing_spec.specs.Verdict.{fine, then_check, provided, refuse_if, each, IfFine}
use Rattle.typing_spec.specs.Scope.{Scope, StaticObject, Binding, Meaning, an_object, an_array_parameter, a_function, an_enumerator, State, no_linkage, mentioned, defined, lookup, binding_in, built_in, tag_in, with_name, with_tag, with_literals, past}
use Rattle.typing_spec.specs.Specifiers.{BaseType}
use Rattle.typing_spec.specs.Expressions.{constant_value}
use Rattle.typing_spec.specs.Declarators.{declared_type, strings_in_sizes, fresh, parameters_in, behind_parameters, function_type}
use Rattle.typing_spec.specs.Initialisers.{past_init}
use Rattle.typing_spec.specs.Linkage as linkage
use Rattle.typing_spec.specs.Linkage.{StorageClass, no_class, by_extern, by_static, Agreed, is_linked, redeclared, as_built_in, compatible, object_with, composite_meaning, completed, put_static, file_function, declared_at_file}
use Rattle.typing_spec.specs.Declarations as rules
use Rattle.typing_spec.specs.Declarations.{Specified, Begun, Declared, no_effects, before_others, begun, finished, finished_with, initialised, items_typed, declaration_typed, with_automatic, with_static, put_object}
use Rattle.lower_wf.specs.Settled.{Sized, SizedType}
use Rattle.lower_wf.proofs.Verdicts.{then_any, then_some, both_any, part, anything}
use Rattle.lower_wf.proofs.Typings.{product_positive, sized_part}
use Rattle.lower_wf.proofs.Specifiers.{declared_good}
use Rattle.lower_wf.proofs.Items.{LengthGood, length_good}

-- ---- properties that say that entries are sized

abbrev pub AllSized : List ObjectType → Type 0
AllSized [] = Unit {0}
AllSized (t ∷ ts) = Sized t × AllSized ts

abbrev pub StaticsSized : List StaticObject → Type 0
StaticsSized [] = Unit {0}
StaticsSized (o ∷ os) = Sized o.type × StaticsSized os

abbrev MeaningSized : Meaning → Type 0
MeaningSized (an_object what t) = SizedType t
MeaningSized (an_array_parameter n t) = Unit {0}
MeaningSized (a_function t) = Unit {0}
MeaningSized (an_enumerator v) = Unit {0}

abbrev pub AllBound : List Binding → Type 0
AllBound [] = Unit {0}
AllBound (b ∷ bs) = MeaningSized b.meaning × AllBound bs

abbrev pub Good : Scope → Type 0
Good s = AllBound s.bindings × AllSized s.objects × StaticsSized s.statics

pub one_more : (ts : List ObjectType) (t : ObjectType) → AllSized ts → Sized t → AllSized (ts ++ t ∷ [])
one_more [] t h k = (k, tt)
one_more (u ∷ ts) t h k = (h.0, one_more ts t h.1 k)

put_one : (ts : List ObjectType) (n : ℕ) (t : ObjectType) → AllSized ts → Sized t → AllSized (put_object ts n t)
put_one [] n t h k = (k, tt)
put_one (u ∷ ts) zero t h k = (k, h.1)
put_one (u ∷ ts) (suc n) t h k = (h.0, put_one ts n t h.1 k)

one_static : (os : List StaticObject) (o : StaticObject) → StaticsSized os → Sized o.type → StaticsSized (os ++ o ∷ [])
one_static [] o h k = (k, tt)
one_static (x ∷ os) o h k = (h.0, one_static os o h.1 k)

put_sized : (os : List StaticObject) (n : ℕ) (o : StaticObject) → StaticsSized os → Sized o.type → StaticsSized (put_static os n o)
put_sized [] n o h k = (k, tt)
put_sized (x ∷ os) zero o h k = (k, h.1)
put_sized (x ∷ os) (suc n) o h k = (h.0, put_sized os n o h.1 k)

-- a size that stays unknown is 1 (6.9.2p5)
one_element_by : (b n : ℕ) → 0 < n → b * n ≤ 1048576 → (0 < 1 * n) × (b * (1 * n) ≤ 1048576)
one_element_by b n h k = let e : 1 * n ≡ n = grind arith in (subst (λ m. 0 < m) (sym e) h, subst (λ m. b * m ≤ 1048576) (sym e) k)

one_element : (t : ObjectType) → Sized t → Sized (array_of 1 t)
one_element t z = one_element_by (bytes_of t.element) (elements_in t.lengths) z.0 z.1

completed_sized : (t : DeclaredType) → SizedType t → Sized (completed t)
completed_sized (complete t) z = z
completed_sized (unknown_size t) z = one_element t z

-- ---- names

abbrev BindingSized : Option Binding → Type 0
BindingSized None = Unit {0}
BindingSized (Some b) = MeaningSized b.meaning

bound_by : (c : Bool) (b : Binding) (o : Option Binding) → MeaningSized b.meaning → BindingSized o → BindingSized (if c then Some b else o)
bound_by true b o h k = h
bound_by false b o h k = k

bound : (bs : List Binding) (n : ℕ) → AllBound bs → BindingSized (binding_in bs n)
bound [] n h = tt
bound (b ∷ bs) n h = bound_by (nat_eq b.name n) b (binding_in bs n) h.0 (bound bs n h.1)

type_by_meaning : (t : DeclaredType) (m : Meaning) → SizedType t → MeaningSized m → SizedType (rules.type_of_meaning t m)
type_by_meaning t (an_object what u) z h = h
type_by_meaning t (an_array_parameter n u) z h = z
type_by_meaning t (a_function f) z h = z
type_by_meaning t (an_enumerator v) z h = z

type_by : (t : DeclaredType) (o : Option Binding) → SizedType t → BindingSized o → SizedType (rules.type_of_binding t o)
type_by t None z h = z
type_by t (Some b) z h = type_by_meaning t b.meaning z h

-- ---- specifiers (6.7.2)

pub past_good : (s : Scope) (e : Option Tree) → Good s → Good (rules.past_option s e)
past_good s None g = g
past_good s (Some e) g = g

enumerators_good : (s : Scope) (next : ℤ) (es : List EnumeratorTree) → Good s → IfFine Good (rules.enumerators s next es)
enumerators_good s next [] g = g
enumerators_good s next (e ∷ es) g =
    let p = past_good s e.value g in
    then_any Good (provided (rules.fresh_enumerator s e.at e.name) (rules.value_of_enumerator s next e.at e.value)) _ (λ v.
    enumerators_good (with_name (rules.past_option s e.value) e.name (an_enumerator v) no_linkage defined) (v +ℤ pos 1) es ((tt, p.0), p.1, p.2))

enumerated_good : (s : Scope) (at : Pos) (tag : Option ℕ) (es : List EnumeratorTree) → Good s → IfFine Good (rules.enumerated s at tag es)
enumerated_good s at None es g = enumerators_good s (pos 0) es g
enumerated_good s at (Some t) es g =
    let inside = with_tag s t false in
    part Good (rules.is_fresh_tag s.level at (tag_in s.tags t)) (then_check (rules.enumerators inside (pos 0) es) (λ u. fine (with_tag u t true)))
    (then_some Good Good (rules.enumerators inside (pos 0) es) (λ u. fine (with_tag u t true)) (enumerators_good inside (pos 0) es g) (λ u h. h))

lists_good : (s : Scope) (at : Pos) (ss : List SpecifierTree) → Good s → IfFine Good (rules.with_lists s at ss)
lists_good s at [] g = g
lists_good s at (extern_specifier ∷ ss) g = lists_good s at ss g
lists_good s at (static_specifier ∷ ss) g = lists_good s at ss g
lists_good s at (plain_specifier t ∷ ss) g = lists_good s at ss g
lists_good s at (enumerators_specifier tag list ∷ ss) g =
    then_some Good Good (rules.enumerated s at tag list) (λ u. rules.with_lists u at ss) (enumerated_good s at tag list g) (λ u h. lists_good u at ss h)

abbrev SaidGood : Specified → Type 0
SaidGood d = Good d.scope

pub specified_good : (s : Scope) (at : Pos) (ss : List SpecifierTree) → Good s → IfFine (λ d. Good d.scope) (rules.specified s at ss)
specified_good s at ss g =
    then_some Good SaidGood (rules.with_lists s at ss) _ (lists_good s at ss g) (λ u h.
    both_any (λ b. Unit {0}) SaidGood (rules.class_of at (rules.classes_of ss)) (rules.base_in u at (rules.lists_in ss) (rules.plain_of ss))
    (λ c b. fine (record { class = c; base = b; scope = u }))
    (anything (rules.base_in u at (rules.lists_in ss) (rules.plain_of ss))) (λ c b x. h))

specified_for_good : (s : Scope) (at : Pos) (ss : List SpecifierTree) (items : List ItemTree) → Good s → IfFine SaidGood (rules.specified_for s at ss items)
specified_for_good s at ss items g =
    then_some SaidGood SaidGood (rules.specified s at ss) _ (specified_good s at ss g)
    (λ d h. part SaidGood (refuse_if (rules.declares_nothing ss items) code.DeclaresNothing at) (fine d) h)

-- ---- the composite type is one of the two (6.2.7p3)

abbrev IfSized : Option DeclaredType → Type 0
IfSized None = Unit {0}
IfSized (Some t) = SizedType t

if_kept : (c : Bool) (t : DeclaredType) → SizedType t → IfSized (if c then Some t else None)
if_kept true t z = z
if_kept false t z = tt

fits_sized : (o : Option ObjectType) (e t : ObjectType) → Sized t → IfSized (fits_unknown o e t)
fits_sized None e t z = tt
fits_sized (Some x) e t z = if_kept (same_object x e) (complete t) z

composite_sized : (a b : DeclaredType) → SizedType a → SizedType b → IfSized (composite a b)
composite_sized (complete a) (complete b) y z = if_kept (same_object a b) (complete a) y
composite_sized (complete a) (unknown_size b) y z = fits_sized (element_type a) b a y
composite_sized (unknown_size a) (complete b) y z = fits_sized (element_type b) a b z
composite_sized (unknown_size a) (unknown_size b) y z = if_kept (same_object a b) (unknown_size a) y

with_type : (at : Pos) (what : typed.Storage) (o : Option DeclaredType) → IfSized o → IfFine MeaningSized (compatible at (object_with what o))
with_type at what None h = tt
with_type at what (Some t) h = h

with_function_type : (at : Pos) (c : Bool) (f : FunctionType) → IfFine MeaningSized (compatible at (if c then Some (a_function f) else None))
with_function_type at true f = tt
with_function_type at false f = tt

meant_again : (at : Pos) (a b : Meaning) → MeaningSized a → MeaningSized b → IfFine MeaningSized (compatible at (composite_meaning a b))
meant_again at (an_object what t) (an_object other u) h k = with_type at what (composite t u) (composite_sized t u h k)
meant_again at (a_function f) (a_function g) h k = with_function_type at (same_function f g) f
meant_again at (an_object what t) (an_array_parameter n u) h k = tt
meant_again at (an_object what t) (a_function g) h k = tt
meant_again at (an_object what t) (an_enumerator v) h k = tt
meant_again at (an_array_parameter n t) (an_object other u) h k = tt
meant_again at (an_array_parameter n t) (an_array_parameter m u) h k = tt
meant_again at (an_array_parameter n t) (a_function g) h k = tt
meant_again at (an_array_parameter n t) (an_enumerator v) h k = tt
meant_again at (a_function f) (an_object other u) h k = tt
meant_again at (a_function f) (an_array_parameter m u) h k = tt
meant_again at (a_function f) (an_enumerator v) h k = tt
meant_again at (an_enumerator x) (an_object other u) h k = tt
meant_again at (an_enumerator x) (an_array_parameter m u) h k = tt
meant_again at (an_enumerator x) (a_function g) h k = tt
meant_again at (an_enumerator x) (an_enumerator v) h k = tt

-- ---- at file scope (6.9.2)

abbrev AgreedSized : Agreed → Type 0
AgreedSized a = MeaningSized a.meaning

linked_again : (c : Bool) (at : Pos) (new : Agreed) (old : Binding) → MeaningSized old.meaning → AgreedSized new
    → IfFine AgreedSized (linkage.by_linkage c at new old)
linked_again false at new old h k = tt
linked_again true at new old h k =
    both_any MeaningSized AgreedSized
    (each (refuse_if (linkage.clash old.linkage new.linkage) code.LinkageConflict at)
    (refuse_if (linkage.is_defined old.state && linkage.is_defined new.state) code.DefinedTwice at))
    (compatible at (composite_meaning old.meaning new.meaning)) (λ u m. fine (linkage.agreed m old.linkage (linkage.joined old.state new.state)))
    (meant_again at old.meaning new.meaning h k) (λ u m x. x)

declared_again : (at : Pos) (new : Agreed) (o : Option Binding) → BindingSized o → AgreedSized new → IfFine AgreedSized (redeclared at new o)
declared_again at new None h k = k
declared_again at new (Some old) h k = linked_again (is_linked old.linkage) at new old h k

stored_at_file : (s : Scope) (state : State) (m : Meaning) → Good s → MeaningSized m → Good (linkage.with_storage s state m)
stored_at_file s state (an_object (typed.static n) t) g h =
    (g.0, g.1, put_sized s.statics n (record { type = completed t; defined = not (linkage.is_mentioned state) }) g.2 (completed_sized t h))
stored_at_file s state (an_object (typed.literal n) t) g h = g
stored_at_file s state (an_object (typed.automatic n) t) g h = g
stored_at_file s state (an_object (typed.parameter n) t) g h = g
stored_at_file s state (an_array_parameter n t) g h = g
stored_at_file s state (a_function f) g h = g
stored_at_file s state (an_enumerator v) g h = g

file_good : (s : Scope) (at : Pos) (n : ℕ) (new : Agreed) → Good s → AgreedSized new → IfFine Good (declared_at_file s at n new)
file_good s at n new g h =
    part Good (as_built_in at new (built_in s n)) (then_check (redeclared at new (lookup s n)) (linkage.agreed_in s n))
    (then_some AgreedSized Good (redeclared at new (lookup s n)) (linkage.agreed_in s n) (declared_again at new (lookup s n) (bound s.bindings n g.0) h) (λ a k.
    stored_at_file (with_name s n a.meaning a.linkage a.state) a.state a.meaning ((k, g.0), g.1, g.2) k))

pub file_function_good : (s : Scope) (at : Pos) (n : ℕ) (class : StorageClass) (f : FunctionType) (state : State) → Good s
    → IfFine Good (file_function s at n class f state)
file_function_good s at n class f state g =
    file_good s at n (linkage.agreed (a_function f) (linkage.linkage_of_function class (lookup s n)) state) g tt

-- ---- a declarator that has begun

object_good : (level : ℕ) (s : Scope) (at : Pos) (n : ℕ) (class : StorageClass) (t : DeclaredType) (b : Bool) → Good s → SizedType t
    → IfFine Good (rules.object_at level s at n class t b)
object_good zero s at n class t b g z =
    file_good s at n (linkage.agreed (an_object (linkage.storage_before s (lookup s n)) t) (linkage.linkage_of_object class (lookup s n))
    (linkage.state_of_object class b)) g z
object_good (suc level) s at n no_class t b g z =
    part Good (fresh s at n) (fine (with_automatic s n t)) ((z, g.0), one_more s.objects (completed t) g.1 (completed_sized t z), g.2)
object_good (suc level) s at n by_static t b g z =
    part Good (fresh s at n) (fine (with_static s n t))
    ((z, g.0), g.1, one_static s.statics (record { type = completed t; defined = true }) g.2 (completed_sized t z))
object_good (suc level) s at n by_extern t b g z = tt

abbrev BegunGood : Begun → Type 0
BegunGood o = Good o.scope × SizedType o.type

begun_good : (s : Scope) (class : StorageClass) (b : BaseType) (at : Pos) (n : ℕ) (sizes : List (Option Tree)) (init : Option Init) → Good s
    → IfFine BegunGood (begun s class b at n sizes init)
begun_good s class b at n sizes init g =
    let u = with_literals s (strings_in_sizes sizes) in
    then_some SizedType BegunGood (declared_type s at b sizes) _ (declared_good s at b sizes) (λ t z.
    then_some Good BegunGood (rules.object_at s.level u at n class t (rules.has_init init)) _
    (object_good s.level u at n class t (rules.has_init init) g z) (λ x h. (h, type_by t (lookup x n) z (bound x.bindings n h.0))))

-- ---- its type once the initialiser is known (6.7.9p22)

retyped_meaning_good : (at : Pos) (t : DeclaredType) (m : Meaning) → SizedType t → MeaningSized m → IfFine MeaningSized (rules.retyped_meaning at t m)
retyped_meaning_good at t (an_object what u) z h = with_type at what (composite u t) (composite_sized u t h z)
retyped_meaning_good at t (an_array_parameter n u) z h = h
retyped_meaning_good at t (a_function f) z h = h
retyped_meaning_good at t (an_enumerator v) z h = h

stored : (s : Scope) (m : Meaning) → Good s → MeaningSized m → Good (rules.with_storage_type s m)
stored s (an_object (typed.static n) u) g h = (g.0, g.1, put_sized s.statics n (record { type = completed u; defined = true }) g.2 (completed_sized u h))
stored s (an_object (typed.automatic n) u) g h = (g.0, put_one s.objects n (completed u) g.1 (completed_sized u h), g.2)
stored s (an_object (typed.literal n) u) g h = g
stored s (an_object (typed.parameter n) u) g h = g
stored s (an_array_parameter n u) g h = g
stored s (a_function f) g h = g
stored s (an_enumerator v) g h = g

retyped_good : (s : Scope) (at : Pos) (t : DeclaredType) (n : ℕ) (b : Option Binding) → Good s → SizedType t → BindingSized b
    → IfFine Good (rules.retyped s at t n b)
retyped_good s at t n None g z h = g
retyped_good s at t n (Some b) g z h =
    then_some MeaningSized Good (rules.retyped_meaning at t b.meaning) _ (retyped_meaning_good at t b.meaning z h)
    (λ m k. stored (with_name s n m b.linkage b.state) m ((k, g.0), g.1, g.2) k)

unknown_good : (level : ℕ) (class : StorageClass) (at : Pos) (s : Scope) → Good s → IfFine Good (rules.left_unknown level class at s)
unknown_good zero by_static at s g = tt
unknown_good zero by_extern at s g = g
unknown_good zero no_class at s g = g
unknown_good (suc level) class at s g = tt

finished_good : (o : Begun) (t : DeclaredType) (i : Option Init) → Good o.scope → SizedType t → IfFine Good (finished_with o t i)
finished_good o (complete t) None g z = g
finished_good o (complete t) (Some i) g z = g
finished_good o (unknown_size t) None g z = unknown_good o.scope.level o.class o.at o.scope g
finished_good o (unknown_size t) (Some i) g z =
    let u = past_init o.scope i in
    then_some (LengthGood o.scope t i) Good (rules.length_from o.scope o.at t i) (rules.sized u o.at o.name t) (length_good o.scope o.at t i) (λ m h.
    sized_part Good o.at (array_of m t) (rules.retyped u o.at (complete (array_of m t)) o.name (lookup u o.name))
    (product_positive m (elements_in t.lengths) h.1 z.0) (λ y.
    retyped_good u o.at (complete (array_of m t)) o.name (lookup u o.name) g y (bound u.bindings o.name g.0)))

-- ---- declarations

abbrev DeclaredGood : Declared → Type 0
DeclaredGood d = Good d.scope

function_good : (level : ℕ) (s : Scope) (class : StorageClass) (b : BaseType) (at : Pos) (n : ℕ) (ps : List ParameterTree) → Good s
    → IfFine Good (rules.function_at level s class b at n ps)
function_good zero s class b at n ps g =
    then_any Good (parameters_in s ps) _ (λ p. file_function_good (behind_parameters s p.scope) at n class (function_type b p.types) mentioned g)
function_good (suc level) s class b at n ps g = tt

items_good : (class : StorageClass) (b : BaseType) (is : List ItemTree) (s : Scope) → Good s → IfFine DeclaredGood (items_typed s class b is)
items_good class b [] s g = g
items_good class b (object at n sizes init ∷ is) s g =
    then_some BegunGood DeclaredGood (begun s class b at n sizes init) _ (begun_good s class b at n sizes init g) (λ o h.
    both_any DeclaredGood DeclaredGood (initialised o) (then_check (finished o) (λ inner. items_typed inner class b is)) before_others
    (then_some Good DeclaredGood (finished o) (λ inner. items_typed inner class b is) (finished_good o o.type o.init h.0 h.1)
    (λ u k. items_good class b is u k)) (λ e d k. k))
items_good class b (function at n ps ∷ is) s g =
    then_some Good DeclaredGood (rules.function_at s.level s class b at n ps) (λ inner. items_typed inner class b is)
    (function_good s.level s class b at n ps g)
    (λ u k. items_good class b is u k)

asserted_good : (s : Scope) (at : Pos) (e : Tree) → Good s → IfFine Good (rules.asserted s at e)
asserted_good s at e g = then_any Good (constant_value s e) _ (λ c. part Good (refuse_if (not (truth c.v)) code.StaticAssertionFailed at) (fine (past s e)) g)

pub declaration_good : (s : Scope) (t : DeclarationTree) → Good s → IfFine (λ d. Good d.scope) (declaration_typed s t)
declaration_good s (declared at ss items) g =
    then_some SaidGood DeclaredGood (rules.specified_for s at ss items) _ (specified_for_good s at ss items g)
    (λ x h. items_good x.class x.base items x.scope h)
declaration_good s (assertion at e text) g =
    then_some Good DeclaredGood (rules.asserted s at e) (λ u. fine (record { scope = u; effects = no_effects })) (asserted_good s at e g) (λ u h. h)
