-- The names of parameters are bound again in the same way.
use Rattle.std.proofs.Common.{◌≡◌, ℕ, zero, suc, ◌+◌, ◌-◌, ◌<◌, ◌≤◌, List, [], ◌∷◌, ◌++◌, drop, get_or, length, map, Option, Some, None, refl, sym, ap, ◌∙◌, subst, arith, append_assoc, append-nil, length-append}
use Rattle.std.specs.Prelude.{take}
use Rattle.std.proofs.lemmas.List.{drop_all}
use Rattle.tree.specs.Tree.{ParameterTree}
use Rattle.tree.specs.View.{parameter_of}
use Rattle.tree.specs.declared.declaration.Parameter.{Parameter}
use Rattle.typed_ast.specs.declared.types.ObjectType as held
use Rattle.typed_ast.specs.declared.types.ParameterType as held_parameter
use Rattle.typed_ast.specs.View.{object_type_of, parameter_type_of}
use Rattle.ctypes.specs.declared.types.IntType.{IntType}
use Rattle.typing_spec.specs.Types.{ObjectType, ParameterType, number, elements, complete}
use Rattle.typing_spec.specs.Program as typed
use Rattle.typing_spec.specs.Verdict.{Verdict, fine, broken, then_check}
use Rattle.typing_spec.specs.Scope.{Scope, Binding, inside, an_object, an_array_parameter, no_linkage, defined}
use Rattle.typing_spec.specs.Declarators.{ParameterObject, a_number, a_reference, Parameters, parameters_from, parameters_in, references_after, type_of_parameter, and_parameter}
use Rattle.typing_spec.specs.Units.{newer}
use Rattle.typing_scopes.specs.Scopes.{with_texts}
use Rattle.decls_declarators.specs.ParameterViews.{checked_parameter, behind_parameter}
use Rattle.decls_declarators.proofs.Verdicts.{next_of}
use Rattle.typing.specs.inside.Names.{named, bound, names_of, with_bindings, Again}

-- ---- one name more

changed_by : (old new : Scope) (bs : List Binding) → new ≡ with_bindings bs old → new ≡ with_bindings new.bindings old
changed_by old new bs e = e ∙ ap (λ l. with_bindings l old) (sym (ap (λ s. s.bindings) e))

pub number_once_more : (t : IntType) (old new : Scope) (r k new_k : ℕ) (n : Option ℕ) (o : held.ObjectType) (own : List (held.ObjectType)) → map object_type_of (drop k own) ≡ object_type_of o ∷ map object_type_of (drop (k + 1) own) →
    new ≡ with_bindings (named old.level r k n (a_number (object_type_of o)) old.bindings) old → new_k ≡ k + 1 → Again old new r r k new_k n (number t) own
number_once_more t old new r k new_k n o own e f g = (
  changed_by old new (named old.level r k n (a_number (object_type_of o)) old.bindings) f,
  λ ns ts. ap (λ l. bound old.level r k (n ∷ ns) (number t ∷ ts) l old.bindings) e
      ∙ ap (λ bs. bound old.level r (k + 1) ns ts (map object_type_of (drop (k + 1) own)) bs) (sym (ap (λ s. s.bindings) f))
      ∙ ap (λ j. bound old.level r j ns ts (map object_type_of (drop j own)) new.bindings) (sym g),
)

-- there is no such object
pub number_missing : (t : IntType) (s : Scope) (r k new_k : ℕ) (n : Option ℕ) (own : List (held.ObjectType)) → length own ≤ k → new_k ≡ k + 1 → Again s s r r k new_k n (number t) own
number_missing t s r k new_k n own h g = (
  refl,
  λ ns ts. ap (λ l. bound s.level r k (n ∷ ns) (number t ∷ ts) (map object_type_of l) s.bindings) (drop_all k own h)
      ∙ ap (λ l. bound s.level r (k + 1) ns ts (map object_type_of l) s.bindings) (sym (drop_all (k + 1) own (omega (arith, h))))
      ∙ ap (λ j. bound s.level r j ns ts (map object_type_of (drop j own)) s.bindings) (sym g),
)

pub reference_once_more : (own : List (held.ObjectType)) (old new : Scope) (r new_r k : ℕ) (n : Option ℕ) (t u : ObjectType) → u ≡ t → new ≡ with_bindings (named old.level r k n (a_reference u) old.bindings) old → new_r ≡ r + 1 →
    Again old new r new_r k k n (elements t) own
reference_once_more own old new r new_r k n t u h f g = (
  changed_by old new (named old.level r k n (a_reference u) old.bindings) f,
  λ ns ts. ap (λ v. bound old.level (r + 1) k ns ts (map object_type_of (drop k own)) (named old.level r k n (a_reference v) old.bindings)) (sym h)
      ∙ ap (λ bs. bound old.level (r + 1) k ns ts (map object_type_of (drop k own)) bs) (sym (ap (λ s. s.bindings) f))
      ∙ ap (λ j. bound old.level j k ns ts (map object_type_of (drop k own)) new.bindings) (sym g),
)

pub own_next : (own : List (held.ObjectType)) (k : ℕ) (o : held.ObjectType) (t : ObjectType) → k < length own → o ≡ get_or own k o → t ≡ object_type_of o → map object_type_of (drop k own) ≡ t ∷ map object_type_of (drop (k + 1) own)
own_next own k o t h e f = ap (λ l. map object_type_of l) (next_of own k o h e) ∙ ap (λ u. u ∷ map object_type_of (drop (k + 1) own)) (sym f)

-- ---- the names in order

-- the names before index i are bound to their parameters
pub record Left (s0 s : Scope) (ps : List Parameter) (types : List (held_parameter.ParameterType)) (own : List (held.ObjectType)) (i place r k : ℕ) : Type 0 where
  pub placed : place ≡ i
  pub references : r ≤ i
  pub numbers : k ≤ i
  pub changed : s ≡ with_bindings s.bindings s0
  pub so : bound s0.level r k (names_of (map parameter_of (drop i ps))) (map parameter_type_of (drop i types)) (map object_type_of (drop k own)) s.bindings ≡ bound s0.level 0 0 (names_of (map parameter_of ps)) (map parameter_type_of types) (map object_type_of own) s0.bindings

pub begun : (s : Scope) (ps : List Parameter) (types : List (held_parameter.ParameterType)) (own : List (held.ObjectType)) → Left s s ps types own 0 0 0 0
begun s ps types own = record { placed = refl; references = omega arith; numbers = omega arith; changed = refl; so = refl }

pub next : (s0 s new : Scope) (ps : List Parameter) (types : List (held_parameter.ParameterType)) (own : List (held.ObjectType)) (i place new_place r new_r k new_k : ℕ) (p : Parameter) (t : held_parameter.ParameterType) → i < length ps → p ≡ get_or ps i p → place < length types → t ≡ get_or types place t →
    Again s new r new_r k new_k p.name (parameter_type_of t) own → new_r ≤ r + 1 → new_k ≤ k + 1 → new_place ≡ place + 1 → Left s0 s ps types own i place r k → Left s0 new ps types own (i + 1) new_place new_r new_k
next s0 s new ps types own i place new_place r new_r k new_k p t h e f g a few_r few_k m inv =
    let level : s.level ≡ s0.level = ap (λ x. x.level) inv.changed in
    let ts : drop i types ≡ t ∷ drop (i + 1) types = subst (λ j. drop j types ≡ t ∷ drop (j + 1) types) inv.placed (next_of types place t f g) in
    let ns = names_of (map parameter_of (drop (i + 1) ps)) in
    let us = map parameter_type_of (drop (i + 1) types) in record {
      placed = m ∙ ap (λ j. j + 1) inv.placed;
      references = omega (arith, few_r, inv.references);
      numbers = omega (arith, few_k, inv.numbers);
      changed = a.0 ∙ ap (λ x. with_bindings new.bindings x) inv.changed;
      so = sym (ap (λ l. bound s0.level r k (names_of (map parameter_of l)) (map parameter_type_of (drop i types)) (map object_type_of (drop k own)) s.bindings) (next_of ps i p h e)
          ∙ ap (λ l. bound s0.level r k (p.name ∷ ns) (map parameter_type_of l) (map object_type_of (drop k own)) s.bindings) ts
          ∙ subst (λ v. bound v r k (p.name ∷ ns) (parameter_type_of t ∷ us) (map object_type_of (drop k own)) s.bindings ≡ bound v new_r new_k ns us (map object_type_of (drop new_k own)) new.bindings) level (a.1 ns us))
          ∙ inv.so;
    }

pub ended : (s0 s : Scope) (ps : List Parameter) (types : List (held_parameter.ParameterType)) (own : List (held.ObjectType)) (i place r k : ℕ) → length ps ≤ i → Left s0 s ps types own i place r k →
    s ≡ with_bindings (bound s0.level 0 0 (names_of (map parameter_of ps)) (map parameter_type_of types) (map object_type_of own) s0.bindings) s0
ended s0 s ps types own i place r k h inv =
    inv.changed
    ∙ ap (λ l. with_bindings l s0) (ap (λ l. bound s0.level r k (names_of (map parameter_of l)) (map parameter_type_of (drop i types)) (map object_type_of (drop k own)) s.bindings) (sym (drop_all i ps h)) ∙ inv.so)

no_types : (level r k : ℕ) (ns : List (Option ℕ)) (os : List ObjectType) (bs : List Binding) → bound level r k ns [] os bs ≡ bs
no_types level r k [] os bs = refl
no_types level r k (n ∷ ns) os bs = refl

pub ended_early : (s0 s : Scope) (ps : List Parameter) (types : List (held_parameter.ParameterType)) (own : List (held.ObjectType)) (i place r k : ℕ) → length types ≤ place → Left s0 s ps types own i place r k →
    s ≡ with_bindings (bound s0.level 0 0 (names_of (map parameter_of ps)) (map parameter_type_of types) (map object_type_of own) s0.bindings) s0
ended_early s0 s ps types own i place r k h inv =
    let ns = names_of (map parameter_of (drop i ps)) in
    let os = map object_type_of (drop k own) in
    inv.changed
    ∙ ap (λ l. with_bindings l s0)
    (sym (ap (λ l. bound s0.level r k ns (map parameter_type_of l) os s.bindings) (drop_all i types (subst (λ j. length types ≤ j) inv.placed h)) ∙ no_types s0.level r k ns os s.bindings) ∙ inv.so)

-- ---- the bindings of parameters, and the parts of the scope that they leave unchanged

pub record Bound (r : ℕ) (s : Scope) (ps : List ParameterTree) (whole : Parameters) : Type 0 where
  pub own : List ObjectType
  pub definitions : whole.scope.definitions ≡ s.definitions
  pub tags : whole.scope.tags ≡ s.tags
  pub level : whole.scope.level ≡ s.level
  pub statics : whole.scope.statics ≡ s.statics
  pub objects : whole.scope.objects ≡ s.objects ++ own
  pub bindings : whole.scope.bindings ≡ bound s.level r (length s.objects) (names_of ps) whole.types own s.bindings

one_longer : (os : List ObjectType) (u : ObjectType) → length (os ++ u ∷ []) ≡ length os + 1
one_longer os u = length-append os (u ∷ [])

bound_one : (r : ℕ) (s : Scope) (name : Option ℕ) (p : ParameterTree) (o : ParameterObject) (ps : List ParameterTree) (qs : Parameters) → Bound (references_after r o) (behind_parameter r s (record p { name = name }) o) ps qs →
    Bound r s (record p { name = name } ∷ ps) (record qs { types = type_of_parameter o ∷ qs.types })
bound_one r s None p (a_number u) ps qs h = record {
  own = u ∷ h.own;
  definitions = h.definitions;
  tags = h.tags;
  level = h.level;
  statics = h.statics;
  objects = h.objects ∙ append_assoc s.objects (u ∷ []) h.own;
  bindings = h.bindings ∙ ap (λ k. bound s.level r k (names_of ps) qs.types h.own s.bindings) (one_longer s.objects u);
}
bound_one r s (Some n) p (a_number u) ps qs h = record {
  own = u ∷ h.own;
  definitions = h.definitions;
  tags = h.tags;
  level = h.level;
  statics = h.statics;
  objects = h.objects ∙ append_assoc s.objects (u ∷ []) h.own;
  bindings = h.bindings ∙ ap (λ k. bound s.level r k (names_of ps) qs.types h.own (named s.level r (length s.objects) (Some n) (a_number u) s.bindings)) (one_longer s.objects u);
}
bound_one r s None p (a_reference u) ps qs h = record { own = h.own; definitions = h.definitions; tags = h.tags; level = h.level; statics = h.statics; objects = h.objects; bindings = h.bindings }
bound_one r s (Some n) p (a_reference u) ps qs h = record { own = h.own; definitions = h.definitions; tags = h.tags; level = h.level; statics = h.statics; objects = h.objects; bindings = h.bindings }

of_first : {A B : Type 0} (v : Verdict A) (go : A → Verdict B) (b : B) → then_check v go ≡ fine b → (a : A) × (v ≡ fine a) × (go a ≡ fine b)
of_first (fine a) go b e = (a, refl, e)
of_first (broken vs) go b e = absurd (cc)

of_fine : {A : Type 0} (a b : A) → fine a ≡ fine b → a ≡ b
of_fine a b e = cc

of_more : (t : ParameterType) (v : Verdict Parameters) (ps : Parameters) → then_check v (and_parameter t) ≡ fine ps → (qs : Parameters) × (v ≡ fine qs) × (record qs { types = t ∷ qs.types } ≡ ps)
of_more t (fine qs) ps e = (qs, refl, of_fine (record qs { types = t ∷ qs.types }) ps e)
of_more t (broken vs) ps e = absurd (cc)

bound_all : (ps : List ParameterTree) (r : ℕ) (s : Scope) (whole : Parameters) → parameters_from r s ps ≡ fine whole → Bound r s ps whole
bound_all [] r s whole e =
    subst (λ k. Bound r s [] k) (of_fine (record { types = []; scope = s }) whole e)
    (record { own = []; definitions = refl; tags = refl; level = refl; statics = refl; objects = sym (append-nil s.objects); bindings = refl })
bound_all (p ∷ ps) r s whole e =
    let first = of_first (checked_parameter s p) (λ u. then_check (parameters_from (references_after r u) (behind_parameter r s p u) ps) (and_parameter (type_of_parameter u))) whole e in
    let more = of_more (type_of_parameter first.0) (parameters_from (references_after r first.0) (behind_parameter r s p first.0) ps) whole first.2 in
    subst (λ k. Bound r s (p ∷ ps) k) more.2 (bound_one r s p.name p first.0 ps more.0 (bound_all ps (references_after r first.0) (behind_parameter r s p first.0) more.0 more.1))

pub bound_in : (s : Scope) (ps : List ParameterTree) (whole : Parameters) → parameters_in s ps ≡ fine whole → Bound 0 (inside (record s { objects = [] })) ps whole
bound_in s ps whole e = bound_all ps 0 (inside (record s { objects = [] })) whole e

-- ---- they precede the earlier bindings

named_onto : (level r k : ℕ) (n : Option ℕ) (o : ParameterObject) (xs bs : List Binding) → named level r k n o (xs ++ bs) ≡ named level r k n o xs ++ bs
named_onto level r k None o xs bs = refl
named_onto level r k (Some n) (a_number t) xs bs = refl
named_onto level r k (Some n) (a_reference t) xs bs = refl

bound_onto : (level r k : ℕ) (ns : List (Option ℕ)) (ts : List ParameterType) (os : List ObjectType) (xs bs : List Binding) → bound level r k ns ts os (xs ++ bs) ≡ bound level r k ns ts os xs ++ bs
bound_onto level r k [] ts os xs bs = refl
bound_onto level r k (n ∷ ns) [] os xs bs = refl
bound_onto level r k (n ∷ ns) (number t ∷ ts) [] xs bs = bound_onto level r (k + 1) ns ts [] xs bs
bound_onto level r k (n ∷ ns) (number t ∷ ts) (o ∷ os) xs bs =
    ap (λ l. bound level r (k + 1) ns ts os l) (named_onto level r k n (a_number o) xs bs) ∙ bound_onto level r (k + 1) ns ts os (named level r k n (a_number o) xs) bs
bound_onto level r k (n ∷ ns) (elements t ∷ ts) os xs bs =
    ap (λ l. bound level (r + 1) k ns ts os l) (named_onto level r k n (a_reference t) xs bs) ∙ bound_onto level (r + 1) k ns ts os (named level r k n (a_reference t) xs) bs

pub before_others : (level : ℕ) (ns : List (Option ℕ)) (ts : List ParameterType) (os : List ObjectType) (bs : List Binding) → bound level 0 0 ns ts os bs ≡ bound level 0 0 ns ts os [] ++ bs
before_others level ns ts os bs = bound_onto level 0 0 ns ts os [] bs

front_of : (xs bs : List Binding) → take (length xs) (xs ++ bs) ≡ xs
front_of [] bs = refl
front_of (x ∷ xs) bs = ap (λ l. x ∷ l) (front_of xs bs)

less : (n m k : ℕ) → k ≡ n + m → k - m ≡ n
less n m k e = omega (arith, e)

pub newer_are : (all xs bs : List Binding) → all ≡ xs ++ bs → newer all bs ≡ xs
newer_are all xs bs e =
    ap (λ l. newer l bs) e ∙ ap (λ k. take k (xs ++ bs)) (less (length xs) (length bs) (length (xs ++ bs)) (length-append xs bs)) ∙ front_of xs bs
