-- Parameters, as far as they are read.
use Rattle.std.proofs.Common.{◌≡◌, ℕ, ◌+◌, ◌<◌, ◌≤◌, List, [], ◌∷◌, ◌++◌, drop, get_or, length, map, Option, Some, None, refl, sym, ap, ◌∙◌, subst, append_assoc, append-nil, arith}
use Rattle.std.proofs.lemmas.List.{drop_all}
use Rattle.srcset.specs.NameTable.{Texts}
use Rattle.srcset.specs.declared.refusal.Refusal.{Refusal}
use Rattle.tree.specs.Tree.{ParameterTree}
use Rattle.tree.specs.declared.declaration.Parameter.{Parameter}
use Rattle.tree.specs.View.{parameter_of}
use Rattle.typed_ast.specs.View.{parameter_type_of}
use Rattle.typed_ast.specs.declared.types.ParameterType as held
use Rattle.typing_spec.specs.Types.{ParameterType, ObjectType, complete}
use Rattle.typing_spec.specs.Verdict.{Verdict, fine, broken, then_check}
use Rattle.typing_spec.specs.Scope.{Scope, Binding, an_object, an_array_parameter, no_linkage, defined, inside, outside}
use Rattle.typing_spec.specs.Program as typed
use Rattle.typing_spec.specs.Declarators.{ParameterObject, a_number, a_reference, Parameters, parameters_from, parameters_in, and_parameter, type_of_parameter, references_after, behind_parameters}
use Rattle.typing_expressions.specs.Refused.{Tells}
use Rattle.typing_expressions.proofs.Verdicts.{tells_then}
use Rattle.typing_scopes.specs.Scopes.{with_texts, with_objects}
use Rattle.decls_declarators.specs.ParameterViews.{checked_parameter, behind_parameter}
use Rattle.decls_declarators.proofs.Verdicts.{next_of, then_fine}

-- types before those of parameters
abbrev pub onto : List ParameterType → Verdict Parameters → Verdict Parameters
onto old (fine ps) = fine (record ps { types = old ++ ps.types })
onto old (broken vs) = broken vs

onto_none : (v : Verdict Parameters) → onto [] v ≡ v
onto_none (fine ps) = refl
onto_none (broken vs) = refl

onto_more : (old : List ParameterType) (t : ParameterType) (v : Verdict Parameters) → onto old (then_check v (and_parameter t)) ≡ onto (old ++ t ∷ []) v
onto_more old t (fine ps) = ap (λ l. fine (record ps { types = l })) (sym (append_assoc old (t ∷ []) ps.types))
onto_more old t (broken vs) = refl

onto_by : (old : List ParameterType) (v : Verdict Parameters) → onto old v ≡ then_check v (λ ps. fine (record ps { types = old ++ ps.types }))
onto_by old (fine ps) = refl
onto_by old (broken vs) = refl

onto_tells : (r : Refusal) (old : List ParameterType) (v : Verdict Parameters) → Tells r v → Tells r (onto old v)
onto_tells r old v h = subst (λ w. Tells r w) (sym (onto_by old v)) (tells_then r v (λ ps. fine (record ps { types = old ++ ps.types })) h)

named_behind : (t : Texts) (n : ℕ) (s : Scope) (name : Option ℕ) (p : ParameterTree) (o : ParameterObject) → behind_parameter n (with_texts t s) (record p { name = name }) o ≡ with_texts t (behind_parameter n s (record p { name = name }) o)
named_behind t n s None p (a_number u) = refl
named_behind t n s None p (a_reference u) = refl
named_behind t n s (Some name) p (a_number u) = refl
named_behind t n s (Some name) p (a_reference u) = refl

texts_behind : (t : Texts) (n : ℕ) (s : Scope) (p : ParameterTree) (o : ParameterObject) → behind_parameter n (with_texts t s) p o ≡ with_texts t (behind_parameter n s p o)
texts_behind t n s p o = named_behind t n s p.name p o

step_tree : (t : Texts) (s next : Scope) (n more : ℕ) (p : ParameterTree) (ps : List ParameterTree) (o : ParameterObject) (old new : List ParameterType) → checked_parameter (with_texts t s) p ≡ fine o →
    next ≡ behind_parameter n s p o → more ≡ references_after n o → new ≡ old ++ type_of_parameter o ∷ [] → onto old (parameters_from n (with_texts t s) (p ∷ ps)) ≡ onto new (parameters_from more (with_texts t next) ps)
step_tree t s next n more p ps o old new e f g h =
    let behind = behind_parameter n (with_texts t s) p o in
    let rest : ParameterObject → Verdict Parameters = λ u. then_check (parameters_from (references_after n u) (behind_parameter n (with_texts t s) p u) ps) (and_parameter (type_of_parameter u)) in
    ap (onto old) (then_fine (checked_parameter (with_texts t s) p) o rest e)
    ∙ onto_more old (type_of_parameter o) (parameters_from (references_after n o) behind ps)
    ∙ ap (λ l. onto l (parameters_from (references_after n o) behind ps)) (sym h)
    ∙ ap (λ k. onto new (parameters_from k behind ps)) (sym g)
    ∙ ap (λ k. onto new (parameters_from more k ps)) (texts_behind t n s p o ∙ ap (with_texts t) (sym f))

-- the result for the rest gives the result for the whole
abbrev pub Left : Texts → Scope → List Parameter → List (held.ParameterType) → ℕ → Scope → List Parameter → Type 0
Left t s0 all types n s rest = onto (map parameter_type_of types) (parameters_from n (with_texts t s) (map parameter_of rest)) ≡ parameters_from 0 (with_texts t s0) (map parameter_of all)

next_tree : (ps : List Parameter) (i : ℕ) (p : Parameter) → i < length ps → p ≡ get_or ps i p → map parameter_of (drop i ps) ≡ parameter_of p ∷ map parameter_of (drop (i + 1) ps)
next_tree ps i p h g = ap (λ l. map parameter_of l) (next_of ps i p h g)

pub begun : (t : Texts) (s : Scope) (all : List Parameter) (types : List (held.ParameterType)) → types ≡ [] → Left t s all types 0 s all
begun t s all types e = ap (λ l. onto (map parameter_type_of l) (parameters_from 0 (with_texts t s) (map parameter_of all))) e ∙ onto_none (parameters_from 0 (with_texts t s) (map parameter_of all))

pub step : (t : Texts) (s0 s next : Scope) (all : List Parameter) (i : ℕ) (p : Parameter) (old new : List (held.ParameterType)) (n more : ℕ) (o : ParameterObject) → i < length all → p ≡ get_or all i p → Left t s0 all old n s (drop i all) →
    checked_parameter (with_texts t s) (parameter_of p) ≡ fine o → next ≡ behind_parameter n s (parameter_of p) o → more ≡ references_after n o → map parameter_type_of new ≡ map parameter_type_of old ++ type_of_parameter o ∷ [] →
    Left t s0 all new more next (drop (i + 1) all)
step t s0 s next all i p old new n more o h k inv e f g l =
    sym (ap (λ ps. onto (map parameter_type_of old) (parameters_from n (with_texts t s) ps)) (next_tree all i p h k)
    ∙ step_tree t s next n more (parameter_of p) (map parameter_of (drop (i + 1) all)) o (map parameter_type_of old) (map parameter_type_of new) e f g l) ∙ inv

-- no more references than parameters
pub few : (n more i : ℕ) (o : ParameterObject) → n ≤ i → more ≡ references_after n o → more ≤ i + 1
few n more i (a_number u) h e = omega (arith, h, e)
few n more i (a_reference u) h e = omega (arith, h, e)

pub stops : (t : Texts) (s0 s : Scope) (all : List Parameter) (i : ℕ) (p : Parameter) (old : List (held.ParameterType)) (n : ℕ) (r : Refusal) → i < length all → p ≡ get_or all i p → Left t s0 all old n s (drop i all) →
    Tells r (checked_parameter (with_texts t s) (parameter_of p)) → Tells r (parameters_from 0 (with_texts t s0) (map parameter_of all))
stops t s0 s all i p old n r h k inv e =
    let rest : ParameterObject → Verdict Parameters = λ u. then_check (parameters_from (references_after n u) (behind_parameter n (with_texts t s) (parameter_of p) u) (map parameter_of (drop (i + 1) all))) (and_parameter (type_of_parameter u)) in
    subst (λ v. Tells r v) (sym (ap (λ ps. onto (map parameter_type_of old) (parameters_from n (with_texts t s) ps)) (next_tree all i p h k)) ∙ inv)
    (onto_tells r (map parameter_type_of old) (then_check (checked_parameter (with_texts t s) (parameter_of p)) rest) (tells_then r (checked_parameter (with_texts t s) (parameter_of p)) rest e))

pub ended : (t : Texts) (s0 s : Scope) (all : List Parameter) (i : ℕ) (types : List (held.ParameterType)) (n : ℕ) → length all ≤ i → Left t s0 all types n s (drop i all) →
    parameters_from 0 (with_texts t s0) (map parameter_of all) ≡ fine (record { types = map parameter_type_of types; scope = with_texts t s })
ended t s0 s all i types n h inv =
    sym inv ∙ ap (λ l. onto (map parameter_type_of types) (parameters_from n (with_texts t s) (map parameter_of l))) (drop_all i all h)
    ∙ ap (λ l. fine (record { types = l; scope = with_texts t s })) (append-nil (map parameter_type_of types))

-- ---- what parameters leave unchanged

pub record Kept (s inner : Scope) : Type 0 where
  pub names : List Binding
  pub texts : inner.texts ≡ s.texts
  pub definitions : inner.definitions ≡ s.definitions
  pub bindings : inner.bindings ≡ names ++ s.bindings
  pub tags : inner.tags ≡ s.tags
  pub statics : inner.statics ≡ s.statics

kept_by : (s a b : Scope) → Kept a b → Kept s a → Kept s b
kept_by s a b h k =
    record {
      names = h.names ++ k.names;
      texts = h.texts ∙ k.texts;
      definitions = h.definitions ∙ k.definitions;
      bindings = h.bindings ∙ ap (λ l. h.names ++ l) k.bindings ∙ sym (append_assoc h.names k.names s.bindings);
      tags = h.tags ∙ k.tags;
      statics = h.statics ∙ k.statics;
    }

kept_one : (n : ℕ) (s : Scope) (name : Option ℕ) (p : ParameterTree) (o : ParameterObject) → Kept s (behind_parameter n s (record p { name = name }) o)
kept_one n s None p (a_number u) = record { names = []; texts = refl; definitions = refl; bindings = refl; tags = refl; statics = refl }
kept_one n s None p (a_reference u) = record { names = []; texts = refl; definitions = refl; bindings = refl; tags = refl; statics = refl }
kept_one n s (Some name) p (a_number u) =
    record {
      names = record { name = name; level = s.level; meaning = an_object (typed.automatic (length s.objects)) (complete u); linkage = no_linkage; state = defined } ∷ [];
      texts = refl;
      definitions = refl;
      bindings = refl;
      tags = refl;
      statics = refl;
    }
kept_one n s (Some name) p (a_reference u) =
    record {
      names = record { name = name; level = s.level; meaning = an_array_parameter n u; linkage = no_linkage; state = defined } ∷ [];
      texts = refl;
      definitions = refl;
      bindings = refl;
      tags = refl;
      statics = refl;
    }

scope_of : (qs ps : Parameters) (t : ParameterType) → and_parameter t qs ≡ fine ps → qs.scope ≡ ps.scope
scope_of qs ps t e = let f : record qs { types = t ∷ qs.types } ≡ ps = cc in ap (λ k. k.scope) f

of_more : (t : ParameterType) (v : Verdict Parameters) (ps : Parameters) → then_check v (and_parameter t) ≡ fine ps → (qs : Parameters) × (v ≡ fine qs) × (qs.scope ≡ ps.scope)
of_more t (fine qs) ps e = (qs, refl, scope_of qs ps t e)
of_more t (broken vs) ps e = absurd (cc)

of_first : {A B : Type 0} (v : Verdict A) (go : A → Verdict B) (b : B) → then_check v go ≡ fine b → (a : A) × (v ≡ fine a) × (go a ≡ fine b)
of_first (fine a) go b e = (a, refl, e)
of_first (broken vs) go b e = absurd (cc)

kept_all : (ps : List ParameterTree) (n : ℕ) (s : Scope) (whole : Parameters) → parameters_from n s ps ≡ fine whole → Kept s whole.scope
kept_all [] n s whole e =
    let f : record { types = []; scope = s } ≡ whole = cc in subst (λ k. Kept s k.scope) f (record { names = []; texts = refl; definitions = refl; bindings = refl; tags = refl; statics = refl })
kept_all (p ∷ ps) n s whole e =
    let first = of_first (checked_parameter s p) (λ u. then_check (parameters_from (references_after n u) (behind_parameter n s p u) ps) (and_parameter (type_of_parameter u))) whole e in
    let next = behind_parameter n s p first.0 in
    let more = of_more (type_of_parameter first.0) (parameters_from (references_after n first.0) next ps) whole first.2 in
    kept_by s next whole.scope (subst (λ k. Kept next k) more.2 (kept_all ps (references_after n first.0) next more.0 more.1)) (kept_one n s p.name p first.0)

-- after a declarator
pub kept_behind : (t : Texts) (outer inner : Scope) (ps : List ParameterTree) (types : List ParameterType) → parameters_in (with_texts t outer) ps ≡ fine (record { types = types; scope = with_texts t inner }) →
    Kept (inside (record (with_texts t outer) { objects = [] })) (with_texts t inner)
kept_behind t outer inner ps types e = kept_all ps 0 (inside (record (with_texts t outer) { objects = [] })) (record { types = types; scope = with_texts t inner }) e

pub left_behind : (t : Texts) (outer inner middle final : Scope) (objects : List ObjectType) → Kept (inside (record (with_texts t outer) { objects = [] })) (with_texts t inner) → middle ≡ outside outer inner → final ≡ with_objects objects middle →
    objects ≡ outer.objects → with_texts t final ≡ behind_parameters (with_texts t outer) (with_texts t inner)
left_behind t outer inner middle final objects k m f o =
    ap (with_texts t) (f ∙ ap (λ x. with_objects objects x) m ∙ ap (λ l. with_objects l (outside outer inner)) o)
    ∙ ap (λ l. record (with_texts t outer) { definitions = l; literals = inner.literals; statics = inner.statics }) k.definitions
    ∙ ap (λ l. record (with_texts t outer) { literals = inner.literals; statics = l }) k.statics
