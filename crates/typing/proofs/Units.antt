-- Functions and external declarations, and the result before them.
use Rattle.std.proofs.Common.{◌≡◌, ℕ, List, [], ◌∷◌, ◌++◌, map, length, arith, refl, sym, ap, ◌∙◌, subst}
use Rattle.std.proofs.lemmas.List.{map-append}
use Rattle.srcset.specs.NameTable.{Texts}
use Rattle.srcset.specs.Refusal.{IsFaultOfRefusal}
use Rattle.srcset.specs.declared.fault.Fault.{Fault}
use Rattle.srcset.specs.declared.refusal.Pos.{Pos}
use Rattle.srcset.specs.declared.refusal.Refusal.{Refusal}
use Rattle.typed_ast.specs.declared.units.Function as held
use Rattle.typed_ast.specs.declared.statements.Statement.{Statement}
use Rattle.typed_ast.specs.View as view
use Rattle.typing_scopes.specs.Scopes.{with_texts}
use Rattle.typing_units.specs.declared.first_values.Initial.{Initial}
use Rattle.typing_units.specs.Views.{initial_of, built_of}
use Rattle.typing_declarations.specs.Views.{declared_of}
use Rattle.tree.specs.declared.unit.External.{External}
use Rattle.tree.specs.View.{external_of}
use Rattle.tree.specs.Tree.{FunctionTree, DeclarationTree, ExternalTree, declaration}
use Rattle.typing_spec.specs.Types.{ObjectType, ParameterType, FunctionType}
use Rattle.typing_spec.specs.Program.{Program}
use Rattle.typing_spec.specs.Verdict.{Verdict, fine, then_check, provided}
use Rattle.typing_spec.specs.Scope.{Scope, defined, file_scope}
use Rattle.typing_spec.specs.Declarators.{Parameters, parameters_in, behind_parameters, function_type}
use Rattle.typing_spec.specs.Linkage.{file_function}
use Rattle.typing_spec.specs.Declarations.{Specified, specified, declaration_typed}
use Rattle.typing_spec.specs.Units.{Built, all_named, body_typed, function_typed, with_declaration, external_typed, externals_typed, definitions_in, whole_program, unit_typed}
use Rattle.typing_expressions.specs.Refused.{Tells}
use Rattle.typing_expressions.proofs.Verdicts.{tells_then}
use Rattle.decls_declarators.proofs.Verdicts.{then_fine, then_tells, provided_fine}
use Rattle.typing.specs.Told.{IsFaultOfVerdict}
use Rattle.typing.specs.inside.Names.{names_of}
use Rattle.typing.specs.inside.Bodies.{entered, body_read, one_more, with_parameters}
use Rattle.typing.proofs.BodyScopes.{body_scope_is}

abbrev pub within : List (List ℕ) → List ParameterType → Scope → Parameters
within t types inner = record { types = types; scope = with_texts t inner }

-- ---- a function whose parameters have been typed

abbrev typed_as : Specified → List ParameterType → FunctionType
typed_as d types = function_type d.base types

abbrev declared_in : FunctionTree → Specified → List ParameterType → Scope → Verdict Scope
declared_in F d types s = file_function s F.at F.name d.class (typed_as d types) defined

pub with_fine : (b : Built) (F : FunctionTree) (d : Specified) (t : List (List ℕ)) (outer inner s1 file : Scope) (types : List ParameterType) (own : List ObjectType) (v : Verdict Built) → d.scope ≡ with_texts t outer →
    parameters_in (with_texts t outer) F.parameters ≡ fine (within t types inner) → own ≡ inner.objects → with_texts t s1 ≡ behind_parameters (with_texts t outer) (with_texts t inner) → declared_in F d types (with_texts t s1) ≡ fine (with_texts t file) →
    body_read b F (typed_as d types) (with_texts t file) (with_texts t (entered (names_of F.parameters) types own file)) ≡ v → with_parameters b F d (within t types inner) ≡ v
with_fine b F d t outer inner s1 file types own v s p o e f h =
    let g : declared_in F d types (behind_parameters (with_texts t outer) (with_texts t inner)) ≡ fine (with_texts t file) = ap (declared_in F d types) (sym e) ∙ f in
    ap (λ k. then_check (declared_in F d types (behind_parameters k (with_texts t inner))) (body_typed b F k (within t types inner) (typed_as d types))) s
    ∙ then_fine (declared_in F d types (behind_parameters (with_texts t outer) (with_texts t inner))) (with_texts t file) (body_typed b F (with_texts t outer) (within t types inner) (typed_as d types)) g
    ∙ ap (λ k. body_read b F (typed_as d types) (with_texts t file) k) (sym (body_scope_is t outer inner file F.parameters types own F.at F.name d.class (typed_as d types) p o g)) ∙ h

pub with_told : (b : Built) (F : FunctionTree) (d : Specified) (t : List (List ℕ)) (outer inner s1 : Scope) (types : List ParameterType) (r : Refusal) → d.scope ≡ with_texts t outer → with_texts t s1 ≡ behind_parameters (with_texts t outer) (with_texts t inner) →
    Tells r (declared_in F d types (with_texts t s1)) → Tells r (with_parameters b F d (within t types inner))
with_told b F d t outer inner s1 types r s e h =
    subst (λ k. Tells r (then_check (declared_in F d types (behind_parameters k (with_texts t inner))) (body_typed b F k (within t types inner) (typed_as d types)))) (sym s)
    (tells_then r (declared_in F d types (behind_parameters (with_texts t outer) (with_texts t inner))) (body_typed b F (with_texts t outer) (within t types inner) (typed_as d types))
    (subst (λ k. Tells r (declared_in F d types k)) e h))

pub with_body_told : (b : Built) (F : FunctionTree) (d : Specified) (t : List (List ℕ)) (outer inner s1 file : Scope) (types : List ParameterType) (own : List ObjectType) (r : Refusal) → d.scope ≡ with_texts t outer →
    parameters_in (with_texts t outer) F.parameters ≡ fine (within t types inner) → own ≡ inner.objects → with_texts t s1 ≡ behind_parameters (with_texts t outer) (with_texts t inner) → declared_in F d types (with_texts t s1) ≡ fine (with_texts t file) →
    Tells r (body_read b F (typed_as d types) (with_texts t file) (with_texts t (entered (names_of F.parameters) types own file))) → Tells r (with_parameters b F d (within t types inner))
with_body_told b F d t outer inner s1 file types own r s p o e f h = subst (λ v. Tells r v) (sym (with_fine b F d t outer inner s1 file types own _ s p o e f refl)) h

-- ---- a function after those before

pub built_more : (stack : ℕ) (s : Scope) (fs new_fs : List held.Function) (is new_is js : List Initial) (old : Scope) (g : held.Function) → new_fs ≡ fs ++ g ∷ [] → new_is ≡ is ++ js → one_more (built_of stack old fs is) s g js ≡ built_of stack s new_fs new_is
built_more stack s fs new_fs is new_is js old g e f =
    ap (λ l. record { stack = stack; scope = s; functions = l; initial = map initial_of is ++ map initial_of js }) (sym (map-append view.function_of fs (g ∷ [])) ∙ ap (map view.function_of) (sym e))
    ∙ ap (λ l. record { stack = stack; scope = s; functions = map view.function_of new_fs; initial = l }) (sym (map-append initial_of is js) ∙ ap (map initial_of) (sym f))

abbrev named_in : FunctionTree → Scope → Verdict Parameters
named_in F s = provided (all_named F.parameters) (parameters_in s F.parameters)

abbrev behind_specifiers : Built → FunctionTree → Specified → Verdict Built
behind_specifiers b F d = then_check (named_in F d.scope) (with_parameters b F d)

pub function_fine : (b : Built) (F : FunctionTree) (d : Specified) (ps : Parameters) (v : Verdict Built) → specified b.scope F.start F.specifiers ≡ fine d → all_named F.parameters ≡ fine tt → parameters_in d.scope F.parameters ≡ fine ps → with_parameters b F d ps ≡ v → function_typed b F ≡ v
function_fine b F d ps v e f g h =
    then_fine (specified b.scope F.start F.specifiers) d (behind_specifiers b F) e ∙ then_fine (named_in F d.scope) ps (with_parameters b F d) (provided_fine (all_named F.parameters) (parameters_in d.scope F.parameters) ps f g) ∙ h

pub specifiers_told : (b : Built) (F : FunctionTree) (r : Refusal) → Tells r (specified b.scope F.start F.specifiers) → Tells r (function_typed b F)
specifiers_told b F r h = tells_then r (specified b.scope F.start F.specifiers) (behind_specifiers b F) h

pub parameters_told : (b : Built) (F : FunctionTree) (d : Specified) (r : Refusal) → specified b.scope F.start F.specifiers ≡ fine d → Tells r (named_in F d.scope) → Tells r (function_typed b F)
parameters_told b F d r e h = then_tells r (specified b.scope F.start F.specifiers) d (behind_specifiers b F) e (tells_then r (named_in F d.scope) (with_parameters b F d) h)

pub function_told : (b : Built) (F : FunctionTree) (d : Specified) (ps : Parameters) (r : Refusal) → specified b.scope F.start F.specifiers ≡ fine d → all_named F.parameters ≡ fine tt → parameters_in d.scope F.parameters ≡ fine ps → Tells r (with_parameters b F d ps) → Tells r (function_typed b F)
function_told b F d ps r e f g h = subst (λ v. Tells r v) (sym (function_fine b F d ps (with_parameters b F d ps) e f g refl)) h

-- ---- external declarations

pub declaration_fine : (stack : ℕ) (s new : Scope) (x : DeclarationTree) (fs : List held.Function) (is new_is js : List Initial) (xs : List Statement) → new_is ≡ is ++ js → declaration_typed s x ≡ fine (declared_of new xs js) →
    external_typed (built_of stack s fs is) (declaration x) ≡ fine (built_of stack new fs new_is)
declaration_fine stack s new x fs is new_is js xs e h =
    then_fine (declaration_typed s x) (declared_of new xs js) (with_declaration (built_of stack s fs is)) h
    ∙ ap (λ l. fine (record { stack = stack; scope = new; functions = map view.function_of fs; initial = l })) (sym (map-append initial_of is js) ∙ ap (map initial_of) (sym e))

pub declaration_told : (stack : ℕ) (s : Scope) (x : DeclarationTree) (fs : List held.Function) (is : List Initial) (r : Refusal) → Tells r (declaration_typed s x) → Tells r (external_typed (built_of stack s fs is) (declaration x))
declaration_told stack s x fs is r h = tells_then r (declaration_typed s x) (with_declaration (built_of stack s fs is)) h

pub one_external : (b new : Built) (x : ExternalTree) → external_typed b x ≡ fine new → (xs : List ExternalTree) → externals_typed b (x ∷ xs) ≡ externals_typed new xs
one_external b new x e xs = then_fine (external_typed b x) new (λ c. externals_typed c xs) e

pub one_external_told : (b : Built) (x : ExternalTree) (r : Refusal) → Tells r (external_typed b x) → (xs : List ExternalTree) → Tells r (externals_typed b (x ∷ xs))
one_external_told b x r h xs = tells_then r (external_typed b x) (λ c. externals_typed c xs) h

-- the rest, of which the first is typed next
pub one_left : (b new : Built) (xs left : List External) (x : External) (whole : Verdict Built) → xs ≡ x ∷ left → external_typed b (external_of x) ≡ fine new → externals_typed b (map external_of xs) ≡ whole → externals_typed new (map external_of left) ≡ whole
one_left b new xs left x whole e h inv = sym (one_external b new (external_of x) h (map external_of left)) ∙ sym (ap (λ l. externals_typed b (map external_of l)) e) ∙ inv

pub one_left_told : (b : Built) (xs left : List External) (x : External) (whole : Verdict Built) (r : Refusal) → xs ≡ x ∷ left → Tells r (external_typed b (external_of x)) → externals_typed b (map external_of xs) ≡ whole → Tells r whole
one_left_told b xs left x whole r e h inv = subst (λ v. Tells r v) (sym (ap (λ l. externals_typed b (map external_of l)) e) ∙ inv) (one_external_told b (external_of x) r h (map external_of left))

pub none_left : (b : Built) (xs : List External) (whole : Verdict Built) → length xs ≡ 0 → externals_typed b (map external_of xs) ≡ whole → whole ≡ fine b
none_left b [] whole e inv = sym inv
none_left b (x ∷ xs) whole e inv = absurd (omega (arith, e))

-- ---- units

abbrev begun : ℕ → List (List ℕ) → List ExternalTree → Built
begun stack t es = record { stack = stack; scope = file_scope t (definitions_in es); functions = []; initial = [] }

unit_is : (stack : ℕ) (t : List (List ℕ)) (whole : Pos) (es : List ExternalTree) (b end : Built) → b ≡ begun stack t es → externals_typed b es ≡ fine end → unit_typed stack t whole es ≡ whole_program whole end
unit_is stack t whole es b end e f = then_fine (externals_typed (begun stack t es) es) end (whole_program whole) (ap (λ k. externals_typed k es) (sym e) ∙ f)

pub externals_told : (stack : ℕ) (t : List (List ℕ)) (whole : Pos) (es : List ExternalTree) (b : Built) (r : Refusal) → b ≡ begun stack t es → Tells r (externals_typed b es) → Tells r (unit_typed stack t whole es)
externals_told stack t whole es b r e h = tells_then r (externals_typed (begun stack t es) es) (whole_program whole) (subst (λ k. Tells r (externals_typed k es)) e h)

pub begun_is : (stack : ℕ) (t : List (List ℕ)) (es : List ExternalTree) (ds : List ℕ) (s : Scope) (fs : List held.Function) (is : List Initial) → ds ≡ definitions_in es → s ≡ file_scope [] ds → fs ≡ [] → is ≡ [] → built_of stack (with_texts t s) fs is ≡ begun stack t es
begun_is stack t es ds s fs is e f g h =
    ap (λ k. built_of stack (with_texts t k) fs is) f ∙ ap (λ k. built_of stack (file_scope t k) fs is) e ∙ ap (λ k. built_of stack (file_scope t (definitions_in es)) k is) g ∙ ap (λ k. built_of stack (file_scope t (definitions_in es)) [] k) h

pub whole_fine : (stack : ℕ) (t : List (List ℕ)) (whole : Pos) (es : List ExternalTree) (b end : Built) (p : Program) → b ≡ begun stack t es → externals_typed b es ≡ fine end → whole_program whole end ≡ fine p → unit_typed stack t whole es ≡ fine p
whole_fine stack t whole es b end p e f g = unit_is stack t whole es b end e f ∙ g

pub whole_told : (stack : ℕ) (t : List (List ℕ)) (whole : Pos) (es : List ExternalTree) (b end : Built) (r : Refusal) → b ≡ begun stack t es → externals_typed b es ≡ fine end → Tells r (whole_program whole end) → Tells r (unit_typed stack t whole es)
whole_told stack t whole es b end r e f h = subst (λ v. Tells r v) (sym (unit_is stack t whole es b end e f)) h

pub fault_told : (fault : Fault) (texts : Texts) (v : Verdict Program) (r : Refusal) → Tells r v → IsFaultOfRefusal fault texts r → IsFaultOfVerdict fault texts v
fault_told fault texts v r h g = record { refusal = r; refused = h; shown = g }
