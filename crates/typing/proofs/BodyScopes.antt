-- The scopes of the bodies of functions.
use Rattle.std.proofs.Common.{◌≡◌, ℕ, ◌+◌, ◌≤◌, List, [], ◌∷◌, ◌++◌, length, map, Option, None, refl, sym, ap, ◌∙◌, subst, append_assoc}
use Rattle.std.specs.Prelude.{nat_lt}
use Rattle.srcset.specs.declared.code.Code.TheVariants as code
use Rattle.srcset.specs.declared.refusal.Pos.{Pos}
use Rattle.srcset.specs.declared.refusal.Refusal.{Refusal}
use Rattle.typed_ast.specs.declared.units.Function as held
use Rattle.typed_ast.specs.declared.statements.Statement.{Statement}
use Rattle.typed_ast.specs.View as view
use Rattle.typing_scopes.specs.declared.scopes.Block.{Block}
use Rattle.typing_scopes.specs.Scopes.{with_texts, block_of, with_objects}
use Rattle.typing_units.specs.declared.first_values.Initial.{Initial}
use Rattle.typing_statements.specs.declared.labels.Label.{Label}
use Rattle.typing_statements.specs.Views.{all_done_of}
use Rattle.tree.specs.Tree.{FunctionTree, ParameterTree}
use Rattle.typing_spec.specs.Types.{ObjectType, ParameterType, FunctionType}
use Rattle.typing_spec.specs.Program as typed
use Rattle.typing_spec.specs.Verdict.{Verdict, fine, then_check, provided, refuse_if, IfFine}
use Rattle.typing_spec.specs.Scope.{Scope, StaticObject, Binding, Tag, Meaning, an_object, an_array_parameter, a_function, an_enumerator, State, defined, lookup, with_name, built_in, inside, outside}
use Rattle.typing_spec.specs.Declarators.{Parameters, parameters_in, behind_parameters}
use Rattle.typing_spec.specs.Linkage.{StorageClass, Agreed, agreed, linkage_of_function, as_built_in, redeclared, agreed_in, with_storage, declared_at_file, file_function}
use Rattle.typing_spec.specs.Statements.{AllDone, pieces}
use Rattle.typing_spec.specs.Units.{Built, around_of, body_scope, newer, weight, function_of, with_function}
use Rattle.typing_expressions.specs.Refused.{IsOf, Tells}
use Rattle.typing_expressions.proofs.Verdicts.{tells_left, tells_then, tells_of}
use Rattle.decls_declarators.proofs.Verdicts.{then_fine, then_tells, provided_fine, provided_left}
use Rattle.typing_statements.proofs.Growth.{Grows, then_any, part}
use Rattle.typing_statements.proofs.StatementGrowth.{pieces_grow}
use Rattle.typing.specs.inside.Names.{bound, names_of}
use Rattle.typing.specs.inside.Bodies.{entered, body_read, one_more}
use Rattle.typing.proofs.Names.{Bound, bound_in, before_others, newer_are}
use Rattle.typing.proofs.Statements.{pieces_kept}

abbrev made : List (List ℕ) → List ℕ → List Binding → List Tag → ℕ → List ℕ → List StaticObject → List ObjectType → Scope
made t d b g l i s o = record { texts = t; definitions = d; bindings = b; tags = g; level = l; literals = i; statics = s; objects = o }

same_made : (t : List (List ℕ)) (d e : List ℕ) (b c : List Binding) (g h : List Tag) (l m : ℕ) (i j : List ℕ) (s u : List StaticObject) (o p : List ObjectType) → d ≡ e → b ≡ c → g ≡ h → l ≡ m → i ≡ j → s ≡ u → o ≡ p →
    made t d b g l i s o ≡ made t e c h m j u p
same_made t d e b c g h l m i j s u o p q1 q2 q3 q4 q5 q6 q7 =
    ap (λ k. made t k b g l i s o) q1 ∙ ap (λ k. made t e k g l i s o) q2 ∙ ap (λ k. made t e c k l i s o) q3 ∙ ap (λ k. made t e c h k i s o) q4 ∙ ap (λ k. made t e c h m k s o) q5
    ∙ ap (λ k. made t e c h m j k o) q6 ∙ ap (λ k. made t e c h m j u k) q7

-- ---- the scope after the declarator of a function

abbrev Stays : Scope → Scope → Type 0
Stays old new = (new.definitions ≡ old.definitions) × (new.tags ≡ old.tags) × (new.level ≡ old.level) × (new.literals ≡ old.literals)

storage_stays : (s : Scope) (state : State) (m : Meaning) → Stays s (with_storage s state m)
storage_stays s state (an_object (typed.static n) t) = (refl, refl, refl, refl)
storage_stays s state (an_object (typed.literal n) t) = (refl, refl, refl, refl)
storage_stays s state (an_object (typed.automatic n) t) = (refl, refl, refl, refl)
storage_stays s state (an_object (typed.parameter n) t) = (refl, refl, refl, refl)
storage_stays s state (an_array_parameter n t) = (refl, refl, refl, refl)
storage_stays s state (a_function f) = (refl, refl, refl, refl)
storage_stays s state (an_enumerator v) = (refl, refl, refl, refl)

at_file_stays : (s : Scope) (at : Pos) (n : ℕ) (new : Agreed) → IfFine (Stays s) (declared_at_file s at n new)
at_file_stays s at n new =
    part (Stays s) (as_built_in at new (built_in s n)) (then_check (redeclared at new (lookup s n)) (agreed_in s n))
    (then_any (Stays s) (redeclared at new (lookup s n)) (agreed_in s n) (λ a. storage_stays (with_name s n a.meaning a.linkage a.state) a.state a.meaning))

file_stays : (s new : Scope) (at : Pos) (n : ℕ) (class : StorageClass) (f : FunctionType) (state : State) → file_function s at n class f state ≡ fine new → Stays s new
file_stays s new at n class f state e = subst (IfFine (Stays s)) e (at_file_stays s at n (agreed (a_function f) (linkage_of_function class (lookup s n)) state))

-- ---- the scope around parameters

abbrev Leaves : Block → Scope → Scope → Type 0
Leaves b old new = (outer : Scope) (names : List Binding) (tags : List Tag) → b ≡ block_of outer → old.bindings ≡ names ++ outer.bindings → old.tags ≡ tags ++ outer.tags → new ≡ outside outer old

abbrev within : List (List ℕ) → List ParameterType → Scope → Parameters
within t types inner = record { types = types; scope = with_texts t inner }

pub left_behind : (b : Block) (t : List (List ℕ)) (outer inner middle final : Scope) (objects given : List ObjectType) (ps : List ParameterTree) (types : List ParameterType) → Leaves b inner middle → final ≡ with_objects objects middle → given ≡ middle.objects →
    parameters_in (with_texts t outer) ps ≡ fine (within t types inner) → b ≡ block_of outer → objects ≡ outer.objects → (with_texts t final ≡ behind_parameters (with_texts t outer) (with_texts t inner)) × (given ≡ inner.objects)
left_behind b t outer inner middle final objects given ps types h f g e i o =
    let k = bound_in (with_texts t outer) ps (within t types inner) e in
    let names = bound (outer.level + 1) 0 0 (names_of ps) types k.own [] in
    let m : middle ≡ outside outer inner = h outer names [] i (k.bindings ∙ before_others (outer.level + 1) (names_of ps) types k.own outer.bindings) k.tags in (
      ap (with_texts t) (f ∙ ap (λ x. with_objects objects x) m)
          ∙ same_made t inner.definitions outer.definitions outer.bindings outer.bindings outer.tags outer.tags outer.level outer.level inner.literals inner.literals inner.statics outer.statics objects outer.objects k.definitions refl refl refl refl k.statics o,
      g ∙ ap (λ x. x.objects) m,
    )

-- ---- the scope of a body

pub body_scope_is : (t : List (List ℕ)) (outer inner file : Scope) (ps : List ParameterTree) (types : List ParameterType) (own : List ObjectType) (at : Pos) (n : ℕ) (class : StorageClass) (f : FunctionType) →
    parameters_in (with_texts t outer) ps ≡ fine (within t types inner) → own ≡ inner.objects → file_function (behind_parameters (with_texts t outer) (with_texts t inner)) at n class f defined ≡ fine (with_texts t file) →
    with_texts t (entered (names_of ps) types own file) ≡ body_scope (with_texts t file) (with_texts t inner) (with_texts t outer)
body_scope_is t outer inner file ps types own at n class f e o g =
    let k = bound_in (with_texts t outer) ps (within t types inner) e in
    let s = file_stays (behind_parameters (with_texts t outer) (with_texts t inner)) (with_texts t file) at n class f defined g in
    let ns = names_of ps in
    let names = bound (outer.level + 1) 0 0 ns types k.own [] in
    let level : file.level + 1 ≡ outer.level + 1 = ap (λ l. l + 1) s.2 in
    let all : inner.bindings ≡ names ++ outer.bindings = k.bindings ∙ before_others (outer.level + 1) ns types k.own outer.bindings in
    same_made t file.definitions inner.definitions (bound (file.level + 1) 0 0 ns types own file.bindings) (newer inner.bindings outer.bindings ++ file.bindings) file.tags inner.tags (file.level + 1) inner.level file.literals inner.literals file.statics file.statics own inner.objects
    (s.0 ∙ sym k.definitions)
    (ap (λ l. bound l 0 0 ns types own file.bindings) level ∙ ap (λ os. bound (outer.level + 1) 0 0 ns types os file.bindings) (o ∙ k.objects)
    ∙ before_others (outer.level + 1) ns types k.own file.bindings ∙ ap (λ l. l ++ file.bindings) (sym (newer_are inner.bindings names outer.bindings all)))
    (s.1 ∙ sym k.tags) (level ∙ sym k.level) s.3 refl o

-- ---- the scope after a body

abbrev done : List (List ℕ) → Scope → List Label → List Initial → List Statement → AllDone
done t s ms js xs = all_done_of (with_texts t s) ms js xs

pub body_left : (b : Block) (t : List (List ℕ)) (F : FunctionTree) (T : FunctionType) (ns : List (Option ℕ)) (types : List ParameterType) (own : List ObjectType) (file s1 s2 s3 : Scope) (ms : List Label) (js : List Initial) (xs : List Statement) → b ≡ block_of file → s1 ≡ entered ns types own file →
    pieces (around_of T) None (with_texts t s1) F.body ≡ fine (done t s2 ms js xs) → Leaves b s2 s3 → (s3 ≡ outside file s2) × (s2.definitions ≡ file.definitions)
body_left b t F T ns types own file s1 s2 s3 ms js xs i e p h =
    let g = pieces_grow (around_of T) None (with_texts t s1) F.body (done t s2 ms js xs) p in
    let names = bound (file.level + 1) 0 0 ns types own [] in (
      h file (g.names ++ names) g.tags i
          (g.names_are ∙ ap (λ s. g.names ++ s.bindings) e ∙ ap (λ l. g.names ++ l) (before_others (file.level + 1) ns types own file.bindings) ∙ sym (append_assoc g.names names file.bindings))
          (g.tags_are ∙ ap (λ s. g.tags ++ s.tags) e),
      pieces_kept (around_of T) None (with_texts t s1) F.body (done t s2 ms js xs) p ∙ ap (λ s. s.definitions) e,
    )

abbrev light : ℕ → FunctionTree → FunctionType → List ObjectType → Verdict (Unit {0})
light stack F T os = refuse_if (nat_lt stack (weight F T.parameters os)) code.WeightLimit F.at

pub body_fine : (stack : ℕ) (b : Built) (F : FunctionTree) (T : FunctionType) (t : List (List ℕ)) (file s1 E s2 s3 s4 : Scope) (g : held.Function) (ms : List Label) (js : List Initial) (xs : List Statement) (objects : List ObjectType) → b.stack ≡ stack → s1 ≡ E →
    pieces (around_of T) None (with_texts t s1) F.body ≡ fine (done t s2 ms js xs) → s3 ≡ outside file s2 → s4 ≡ with_objects [] s3 → objects ≡ s3.objects → s2.definitions ≡ file.definitions → light stack F T objects ≡ fine tt →
    view.function_of g ≡ function_of F T (done t s2 ms js xs) → body_read b F T (with_texts t file) (with_texts t E) ≡ fine (one_more b (with_texts t s4) g js)
body_fine stack b F T t file s1 E s2 s3 s4 g ms js xs objects k e p l m o d w v =
    let all = done t s2 ms js xs in
    let behind : Built = record {
      stack = b.stack;
      scope = record (with_texts t file) { literals = s2.literals; statics = s2.statics; objects = [] };
      functions = b.functions ++ function_of F T all ∷ [];
      initial = b.initial ++ all.initial;
    } in
    let scope : record (with_texts t file) { literals = s2.literals; statics = s2.statics; objects = [] } ≡ with_texts t s4
    = same_made t file.definitions s2.definitions file.bindings file.bindings file.tags file.tags file.level file.level s2.literals s2.literals s2.statics s2.statics [] [] (sym d) refl refl refl refl refl refl
    ∙ sym (ap (with_texts t) (m ∙ ap (λ x. with_objects [] x) l)) in
    ap (λ s. body_read b F T (with_texts t file) (with_texts t s)) (sym e) ∙ then_fine (pieces (around_of T) None (with_texts t s1) F.body) all (with_function b (with_texts t file) F T) p
    ∙ provided_fine (light b.stack F T s2.objects) (fine behind) behind (ap (light b.stack F T) (sym (o ∙ ap (λ x. x.objects) l)) ∙ ap (λ n. light n F T objects) k ∙ w) refl
    ∙ ap (λ s. fine (record { stack = b.stack; scope = s; functions = b.functions ++ function_of F T all ∷ []; initial = b.initial ++ all.initial })) scope
    ∙ ap (λ f. fine (record { stack = b.stack; scope = with_texts t s4; functions = b.functions ++ f ∷ []; initial = b.initial ++ all.initial })) (sym v)

pub body_told : (b : Built) (F : FunctionTree) (T : FunctionType) (t : List (List ℕ)) (file s1 E : Scope) (r : Refusal) → s1 ≡ E → Tells r (pieces (around_of T) None (with_texts t s1) F.body) → Tells r (body_read b F T (with_texts t file) (with_texts t E))
body_told b F T t file s1 E r e h =
    subst (λ s. Tells r (body_read b F T (with_texts t file) (with_texts t s))) e (tells_then r (pieces (around_of T) None (with_texts t s1) F.body) (with_function b (with_texts t file) F T) h)

pub weight_told : (stack : ℕ) (b : Built) (F : FunctionTree) (T : FunctionType) (t : List (List ℕ)) (file s1 E s2 s3 : Scope) (ms : List Label) (js : List Initial) (xs : List Statement) (objects : List ObjectType) (r : Refusal) → b.stack ≡ stack → s1 ≡ E →
    pieces (around_of T) None (with_texts t s1) F.body ≡ fine (done t s2 ms js xs) → s3 ≡ outside file s2 → objects ≡ s3.objects → IsOf r (light stack F T objects) → Tells r (body_read b F T (with_texts t file) (with_texts t E))
weight_told stack b F T t file s1 E s2 s3 ms js xs objects r k e p l o h =
    subst (λ s. Tells r (body_read b F T (with_texts t file) (with_texts t s))) e
    (then_tells r (pieces (around_of T) None (with_texts t s1) F.body) (done t s2 ms js xs) (with_function b (with_texts t file) F T) p
    (provided_left r (light b.stack F T s2.objects) _ (tells_of r (light b.stack F T s2.objects) (subst (λ os. IsOf r (light b.stack F T os)) (o ∙ ap (λ x. x.objects) l) (subst (λ n. IsOf r (light n F T objects)) (sym k) h)))))
