-- The texts of a unit stay, whatever it declares.
use Rattle.std.proofs.Common.{◌≡◌, ℕ, zero, suc, Bool, false, not, nat_lt, List, [], ◌∷◌, ◌++◌, Option, Some, None, refl, ◌∙◌}
use Rattle.srcset.specs.declared.code.Code.TheVariants as code
use Rattle.srcset.specs.declared.refusal.Pos.{Pos}
use Rattle.ctypes.specs.Types.{truth}
use Rattle.tree.specs.Tree.{Tree, Init, ParameterTree, ItemTree, object, function, DeclarationTree, declared, assertion, FunctionTree, ExternalTree, definition, declaration}
use Rattle.typing_spec.specs.Types.{DeclaredType, complete, unknown_size, FunctionType, array_of}
use Rattle.typing_spec.specs.Verdict.{Verdict, fine, then_check, provided, refuse_if, IfFine}
use Rattle.typing_spec.specs.Program as typed
use Rattle.typing_spec.specs.Program.{Program}
use Rattle.typing_spec.specs.Scope.{Scope, Binding, Meaning, an_object, an_array_parameter, a_function, an_enumerator, State, mentioned, defined, lookup, with_name, with_literals, past, built_in}
use Rattle.typing_spec.specs.Specifiers.{BaseType}
use Rattle.typing_spec.specs.Expressions.{constant_value, too_large}
use Rattle.typing_spec.specs.Initialisers.{past_init}
use Rattle.typing_spec.specs.Declarators.{Parameters, declared_type, strings_in_sizes, fresh, parameters_in, behind_parameters, function_type}
use Rattle.typing_spec.specs.Linkage.{StorageClass, no_class, by_extern, by_static, Agreed, agreed, linkage_of_object, linkage_of_function, storage_before, state_of_object, as_built_in, redeclared, declared_at_file, agreed_in, with_storage, file_function}
use Rattle.typing_spec.specs.Declarations as rules
use Rattle.typing_spec.specs.Declarations.{Begun, Declared, Effects, no_effects, before_others, begun, finished, finished_with, initialised, items_typed, declaration_typed, specified}
use Rattle.typing_spec.specs.Statements.{AllDone, pieces}
use Rattle.typing_spec.specs.Units as units
use Rattle.typing_spec.specs.Units.{Built, external_typed, externals_typed, function_typed, body_typed, with_function}
use Rattle.lower_wf.proofs.Verdicts.{then_any, then_some, both_any, part, more_of}
use Rattle.lower_wf.proofs.Ground.{Setting}
use Rattle.lower_wf.proofs.Specifiers.{Leads, specified_more, specified_for_more}

abbrev pub SameTexts : Scope → Scope → Type 0
SameTexts s u = u.texts ≡ s.texts

-- of no program
nothing : Setting
nothing = record {
  program = record { literals = []; statics = []; functions = []; main = 0 };
  function = record { name = 0; type = record { result = None; constant = false; parameters = [] }; objects = []; body = typed.empty; nodes = 0; weight = 0 };
  texts = [];
  definitions = [];
}

from_there : (s t : Scope) (v : Verdict Scope) → SameTexts s t → IfFine (SameTexts t) v → IfFine (SameTexts s) v
from_there s t v e h = more_of (SameTexts t) (SameTexts s) v (λ u f. f ∙ e) h

stored : (s : Scope) (state : State) (m : Meaning) → SameTexts s (with_storage s state m)
stored s state (an_object (typed.static n) t) = refl
stored s state (an_object (typed.literal n) t) = refl
stored s state (an_object (typed.automatic n) t) = refl
stored s state (an_object (typed.parameter n) t) = refl
stored s state (an_array_parameter n t) = refl
stored s state (a_function f) = refl
stored s state (an_enumerator v) = refl

at_file : (s : Scope) (at : Pos) (n : ℕ) (new : Agreed) → IfFine (SameTexts s) (declared_at_file s at n new)
at_file s at n new =
    part (SameTexts s) (as_built_in at new (built_in s n)) (then_check (redeclared at new (lookup s n)) (agreed_in s n))
    (then_any (SameTexts s) (redeclared at new (lookup s n)) (agreed_in s n) (λ a. stored (with_name s n a.meaning a.linkage a.state) a.state a.meaning))

object_texts : (level : ℕ) (s : Scope) (at : Pos) (n : ℕ) (class : StorageClass) (t : DeclaredType) (b : Bool) → IfFine (SameTexts s) (rules.object_at level s at n class t b)
object_texts zero s at n class t b = at_file s at n (agreed (an_object (storage_before s (lookup s n)) t) (linkage_of_object class (lookup s n)) (state_of_object class b))
object_texts (suc level) s at n no_class t b = part (SameTexts s) (fresh s at n) (fine (rules.with_automatic s n t)) refl
object_texts (suc level) s at n by_static t b = part (SameTexts s) (fresh s at n) (fine (rules.with_static s n t)) refl
object_texts (suc level) s at n by_extern t b = tt

abbrev BegunTexts : Scope → Begun → Type 0
BegunTexts s b = SameTexts s b.scope

begun_texts : (s : Scope) (class : StorageClass) (b : BaseType) (at : Pos) (n : ℕ) (sizes : List (Option Tree)) (init : Option Init) → IfFine (BegunTexts s) (begun s class b at n sizes init)
begun_texts s class b at n sizes init =
    let u = with_literals s (strings_in_sizes sizes) in
    then_any (BegunTexts s) (declared_type s at b sizes) _ (λ t.
    then_some (SameTexts u) (BegunTexts s) (rules.object_at s.level u at n class t (rules.has_init init)) _ (object_texts s.level u at n class t (rules.has_init init)) (λ x e. e))

typed_storage : (s : Scope) (m : Meaning) → SameTexts s (rules.with_storage_type s m)
typed_storage s (an_object (typed.static n) t) = refl
typed_storage s (an_object (typed.automatic n) t) = refl
typed_storage s (an_object (typed.literal n) t) = refl
typed_storage s (an_object (typed.parameter n) t) = refl
typed_storage s (an_array_parameter n t) = refl
typed_storage s (a_function f) = refl
typed_storage s (an_enumerator v) = refl

retyped_texts : (s : Scope) (at : Pos) (t : DeclaredType) (n : ℕ) (b : Option Binding) → IfFine (SameTexts s) (rules.retyped s at t n b)
retyped_texts s at t n None = refl
retyped_texts s at t n (Some b) = then_any (SameTexts s) (rules.retyped_meaning at t b.meaning) _ (λ m. typed_storage (with_name s n m b.linkage b.state) m)

unknown_texts : (level : ℕ) (class : StorageClass) (at : Pos) (s : Scope) → IfFine (SameTexts s) (rules.left_unknown level class at s)
unknown_texts zero by_static at s = tt
unknown_texts zero by_extern at s = refl
unknown_texts zero no_class at s = refl
unknown_texts (suc level) class at s = tt

finished_texts : (b : Begun) (t : DeclaredType) (i : Option Init) → IfFine (SameTexts b.scope) (finished_with b t i)
finished_texts b (complete t) None = refl
finished_texts b (complete t) (Some i) = refl
finished_texts b (unknown_size t) None = unknown_texts b.scope.level b.class b.at b.scope
finished_texts b (unknown_size t) (Some i) =
    then_any (SameTexts b.scope) (rules.length_from b.scope b.at t i) (rules.sized (past_init b.scope i) b.at b.name t) (λ n.
    part (SameTexts b.scope) (too_large b.at (array_of n t)) (rules.retyped (past_init b.scope i) b.at (complete (array_of n t)) b.name (lookup (past_init b.scope i) b.name)) (retyped_texts (past_init b.scope i) b.at (complete (array_of n t)) b.name (lookup (past_init b.scope i) b.name)))

function_texts : (level : ℕ) (s : Scope) (class : StorageClass) (b : BaseType) (at : Pos) (n : ℕ) (ps : List ParameterTree) → IfFine (SameTexts s) (rules.function_at level s class b at n ps)
function_texts zero s class b at n ps =
    then_any (SameTexts s) (parameters_in s ps) _ (λ (p : Parameters). let u = behind_parameters s p.scope in at_file u at n (agreed (a_function (function_type b p.types)) (linkage_of_function class (lookup u n)) mentioned))
function_texts (suc level) s class b at n ps = tt

abbrev DeclaredTexts : Scope → Declared → Type 0
DeclaredTexts s d = SameTexts s d.scope

items_texts : (class : StorageClass) (b : BaseType) (is : List ItemTree) (s : Scope) → IfFine (DeclaredTexts s) (items_typed s class b is)
items_texts class b [] s = refl
items_texts class b (object at n sizes init ∷ is) s =
    then_some (BegunTexts s) (DeclaredTexts s) (begun s class b at n sizes init) _ (begun_texts s class b at n sizes init) (λ o e.
    both_any (DeclaredTexts s) (DeclaredTexts s) (initialised o) (then_check (finished o) (λ inner. items_typed inner class b is)) before_others
    (then_some (SameTexts o.scope) (DeclaredTexts s) (finished o) (λ inner. items_typed inner class b is) (finished_texts o o.type o.init) (λ u f.
    more_of (DeclaredTexts u) (DeclaredTexts s) (items_typed u class b is) (λ d g. g ∙ f ∙ e) (items_texts class b is u))) (λ x d g. g))
items_texts class b (function at n ps ∷ is) s =
    then_some (SameTexts s) (DeclaredTexts s) (rules.function_at s.level s class b at n ps) _ (function_texts s.level s class b at n ps) (λ u e. more_of (DeclaredTexts u) (DeclaredTexts s) (items_typed u class b is) (λ d g. g ∙ e) (items_texts class b is u))

declaration_texts : (s : Scope) (t : DeclarationTree) → IfFine (DeclaredTexts s) (declaration_typed s t)
declaration_texts s (declared at ss items) =
    then_some (λ x. Leads nothing s x.scope) (DeclaredTexts s) (rules.specified_for s at ss items) _ (specified_for_more nothing s at ss items) (λ x g.
    more_of (DeclaredTexts x.scope) (DeclaredTexts s) (items_typed x.scope x.class x.base items) (λ d h. h ∙ g.0.texts) (items_texts x.class x.base items x.scope))
declaration_texts s (assertion at e text) =
    then_some (SameTexts s) (DeclaredTexts s) (rules.asserted s at e) _ (then_any (SameTexts s) (constant_value s e) _ (λ c. part (SameTexts s) (refuse_if (not (truth c.v)) code.StaticAssertionFailed at) (fine (past s e)) refl)) (λ u h. h)

abbrev BuiltTexts : Built → Built → Type 0
BuiltTexts b c = SameTexts b.scope c.scope

with_function_texts : (a b : Built) (file : Scope) (f : FunctionTree) (t : FunctionType) (all : AllDone) → SameTexts a.scope file → IfFine (BuiltTexts a) (with_function b file f t all)
with_function_texts a b file f t all e =
    part (BuiltTexts a) (refuse_if (nat_lt b.stack (units.weight f t.parameters all.scope.objects)) code.WeightLimit f.at)
    (fine (record { stack = b.stack; scope = record file { literals = all.scope.literals; statics = all.scope.statics; objects = [] }; functions = b.functions ++ units.function_of f t all ∷ []; initial = b.initial ++ all.initial })) e

definition_texts : (b : Built) (f : FunctionTree) → IfFine (BuiltTexts b) (function_typed b f)
definition_texts b f =
    then_some (λ d. Leads nothing b.scope d.scope) (BuiltTexts b) (specified b.scope f.start f.specifiers) _ (specified_more nothing b.scope f.start f.specifiers) (λ d g.
    then_any (BuiltTexts b) (provided (units.all_named f.parameters) (parameters_in d.scope f.parameters)) _ (λ (ps : Parameters).
    let t = function_type d.base ps.types in
    let u = behind_parameters d.scope ps.scope in
    then_some (SameTexts u) (BuiltTexts b) (file_function u f.at f.name d.class t defined) (body_typed b f d.scope ps t) (at_file u f.at f.name (agreed (a_function t) (linkage_of_function d.class (lookup u f.name)) defined)) (λ file e.
    then_any (BuiltTexts b) (pieces (units.around_of t) None (units.body_scope file ps.scope d.scope) f.body) (with_function b file f t) (λ all.
    with_function_texts b b file f t all (e ∙ g.0.texts)))))

external_texts : (b : Built) (e : ExternalTree) → IfFine (BuiltTexts b) (external_typed b e)
external_texts b (definition f) = definition_texts b f
external_texts b (declaration d) = then_some (DeclaredTexts b.scope) (BuiltTexts b) (declaration_typed b.scope d) (units.with_declaration b) (declaration_texts b.scope d) (λ x h. h)

pub externals_texts : (b : Built) (es : List ExternalTree) → IfFine (BuiltTexts b) (externals_typed b es)
externals_texts b [] = refl
externals_texts b (e ∷ es) =
    then_some (BuiltTexts b) (BuiltTexts b) (external_typed b e) (λ c. externals_typed c es) (external_texts b e) (λ c h. more_of (BuiltTexts c) (BuiltTexts b) (externals_typed c es) (λ x g. g ∙ h) (externals_texts c es))
