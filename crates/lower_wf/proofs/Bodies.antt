-- A function whose file's names denote entities of the program is typed (6.9.1).
use Rattle.std.proofs.Common.{◌≡◌, ◌≤◌, ℕ, ◌+◌, ◌-◌, true, ◌&&◌, nat_lt, nat_eq, List, [], ◌∷◌, ◌++◌, length, take, None, refl, sym, ap, ◌∙◌, subst, arith}
use Rattle.std.specs.Prelude.{slice_get}
use Rattle.std.proofs.lemmas.Bool.{false≢true, and_from}
use Rattle.std.proofs.lemmas.List.{length-append}
use Rattle.srcset.specs.declared.code.Code.TheVariants as code
use Rattle.srcset.specs.declared.refusal.Pos.{Pos}
use Rattle.tree.specs.Tree.{FunctionTree}
use Rattle.typing_spec.specs.Types.{ObjectType, ParameterType, number, elements, FunctionType, same_type}
use Rattle.typing_spec.specs.Program as typed
use Rattle.typing_spec.specs.Program.{Function}
use Rattle.typing_spec.specs.Verdict.{fine, then_check, provided, refuse_if, IfFine}
use Rattle.typing_spec.specs.Scope.{Scope, Binding, Meaning, an_object, an_array_parameter, a_function, an_enumerator, State, defined, lookup, with_name, built_in, inside}
use Rattle.typing_spec.specs.Declarators.{Parameters, parameters_in, behind_parameters, function_type}
use Rattle.typing_spec.specs.Linkage.{Agreed, agreed, linkage_of_function, as_built_in, redeclared, declared_at_file, agreed_in, with_storage, file_function}
use Rattle.typing_spec.specs.Declarations.{specified}
use Rattle.typing_spec.specs.Statements.{AllDone, pieces}
use Rattle.typing_spec.specs.Units as units
use Rattle.typing_spec.specs.Units.{Built, numbers_in, function_typed, function_of, body_typed, with_function, body_scope, newer, around_of}
use Rattle.typing_spec.specs.Uses.{uses_in_statement}
use Rattle.typing_spec.specs.WellTyped.{parameters_are_first, statement_is_typed}
use Rattle.lower_wf.specs.Settled.{FunctionIsTyped}
use Rattle.lower_wf.proofs.Same.{both_true}
use Rattle.lower_wf.proofs.Verdicts.{then_any, then_some, part, of_fine, delayed}
use Rattle.lower_wf.proofs.Ground.{Setting, Present, Names, AllFit, TextsEnd}
use Rattle.lower_wf.proofs.Scopes.{Ends, StaticsEnd, ObjectsEnd, earlier, longer}
use Rattle.lower_wf.proofs.Blocks.{Deep}
use Rattle.lower_wf.proofs.Statements.{AllGood, pieces_good, inner_typed}
use Rattle.lower_wf.proofs.Defined.{statement_defined}
use Rattle.lower_wf.proofs.Parameters.{Stand, parameters_stand}

-- ---- a declaration of a function leaves texts and definitions

abbrev Leaves : Scope → Scope → Type 0
Leaves s u = (u.texts ≡ s.texts) × (u.definitions ≡ s.definitions)

stored : (s : Scope) (state : State) (m : Meaning) → Leaves s (with_storage s state m)
stored s state (an_object (typed.static n) t) = (refl, refl)
stored s state (an_object (typed.literal n) t) = (refl, refl)
stored s state (an_object (typed.automatic n) t) = (refl, refl)
stored s state (an_object (typed.parameter n) t) = (refl, refl)
stored s state (an_array_parameter n t) = (refl, refl)
stored s state (a_function f) = (refl, refl)
stored s state (an_enumerator v) = (refl, refl)

at_file : (s : Scope) (at : Pos) (n : ℕ) (new : Agreed) → IfFine (Leaves s) (declared_at_file s at n new)
at_file s at n new =
    part (Leaves s) (as_built_in at new (built_in s n)) (then_check (redeclared at new (lookup s n)) (agreed_in s n))
    (then_any (Leaves s) (redeclared at new (lookup s n)) (agreed_in s n) (λ a. stored (with_name s n a.meaning a.linkage a.state) a.state a.meaning))

-- ---- the newest of a list

taken_all : (xs ys : List Binding) → take (length xs) (xs ++ ys) ≡ xs
taken_all [] ys = refl
taken_all (x ∷ xs) ys = ap (λ l. x ∷ l) (taken_all xs ys)

newest : (xs ys all : List Binding) → all ≡ xs ++ ys → newer all ys ≡ xs
newest xs ys all e =
    let n : length all - length ys ≡ length xs = (let f = ap length e in let g = length-append xs ys in omega (arith, f, g)) in
    ap (λ k. take k all) n ∙ ap (take (length xs)) e ∙ taken_all xs ys

first_of : (ps : List ParameterType) (own more : List ObjectType) → parameters_are_first ps own ≡ true → parameters_are_first ps (own ++ more) ≡ true
first_of [] own more h = refl
first_of (elements t ∷ ps) own more h = first_of ps own more h
first_of (number t ∷ ps) [] more h = absurd (false≢true h)
first_of (number t ∷ ps) (o ∷ own) more h =
    let w = both_true (same_type t o.element) (nat_eq (length o.lengths) 0 && parameters_are_first ps own) h in
    let v = both_true (nat_eq (length o.lengths) 0) (parameters_are_first ps own) w.1 in
    and_from (same_type t o.element) (nat_eq (length o.lengths) 0 && parameters_are_first ps (own ++ more)) w.0 (and_from (nat_eq (length o.lengths) 0) (parameters_are_first ps (own ++ more)) v.0 (first_of ps own more v.1))

last_is : (xs : List Function) (x y : Function) → xs ++ y ∷ [] ≡ xs ++ x ∷ [] → x ≡ y
last_is [] x y e = cc
last_is (z ∷ xs) x y e = last_is xs x y (let h : xs ++ y ∷ [] ≡ xs ++ x ∷ [] = cc in h)

deep : (a b : ℕ) → b ≡ a + 1 → Deep b
deep a b e z = omega (arith, e, z)

module _ (W : Setting) where
  fits_both : (xs ys : List Binding) → AllFit W xs → AllFit W ys → AllFit W (xs ++ ys)
  fits_both [] ys h k = k
  fits_both (x ∷ xs) ys h k = (h.0, fits_both xs ys h.1 k)

  objects_are : (g : Function) (objects : List ObjectType) → W.function ≡ g → g.objects ≡ objects → ObjectsEnd W objects
  objects_are g objects e h n t f = ap (λ x. slice_get x.objects n) e ∙ ap (λ l. slice_get l n) h ∙ f

  body : (f : FunctionTree) (outer file : Scope) (ps : Parameters) (t : FunctionType) → t.parameters ≡ ps.types → Stand W [] (inside (record outer { objects = [] })) ps → (all : AllDone) →
      (W.function.type.result ≡ t.result → AllGood W (body_scope file ps.scope outer) all) → file.texts ≡ outer.texts → file.definitions ≡ outer.definitions → W.function ≡ function_of f t all → Names W file → TextsEnd W all.scope.literals → StaticsEnd W all.scope.statics →
      Present W.program (uses_in_statement W.function.body) → (parameters_are_first W.function.type.parameters W.function.objects ≡ true) × (statement_is_typed W.program W.function (numbers_in W.function.type.parameters) (length W.function.objects) W.function.body ≡ true)
  body f outer file ps t p st all make te de e N T S u =
      let g = make (ap (λ x. x.type.result) e) in
      let E : Ends W all.scope = (T, S, objects_are (function_of f t all) all.scope.objects e refl) in
      let B = body_scope file ps.scope outer in
      let Eb = earlier W B all.scope g.0 E in
      let types : W.function.type.parameters ≡ ps.types = ap (λ x. x.type.parameters) e ∙ p in
      let new = newest st.names outer.bindings ps.scope.bindings st.names_are in
      let fit = st.fit types Eb.2 in
      let bindings : AllFit W B.bindings = subst (λ l. AllFit W (l ++ file.bindings)) (sym new) (fits_both st.names file.bindings fit N.2) in
      let names : Names W B = (st.texts ∙ sym te ∙ N.0, st.definitions ∙ sym de ∙ N.1, bindings) in
      let count : length ps.scope.objects ≡ numbers_in ps.types = ap length st.objects ∙ st.count in
      let numbers : numbers_in W.function.type.parameters ≡ numbers_in ps.types = ap numbers_in types in
      let long = longer B all.scope g.0 in
      let a = numbers_in t.parameters in
      let n = length all.scope.objects in
      let same : a ≡ length ps.scope.objects = ap numbers_in p ∙ sym count in
      let up : Present W.program (uses_in_statement (function_of f t all).body) = subst (λ x. Present W.program (uses_in_statement x.body)) e u in
      let whole : a ≤ n = omega (arith, long, same) in
      let inner = (g.1 names E).0 a (a + (n - a)) (omega (arith, same)) (omega (arith, whole)) in (
        subst (λ x. parameters_are_first x.type.parameters x.objects ≡ true) (sym e) (subst (λ l. parameters_are_first l all.scope.objects ≡ true) (sym p)
            (subst (λ l. parameters_are_first ps.types l ≡ true) (sym (g.0.objects.is ∙ ap (λ l. l ++ g.0.objects.more) st.objects)) (first_of ps.types st.own g.0.objects.more st.first))),
        subst (λ x. statement_is_typed W.program W.function (numbers_in x.type.parameters) (length x.objects) x.body ≡ true) (sym e) (inner_typed W a n a n all.statements (omega arith) whole (omega arith) inner up),
      )

  abbrev FunctionGood : Built → Built → Type 0
  FunctionGood b c =
      c.functions ≡ b.functions ++ W.function ∷ [] → Names W c.scope → TextsEnd W c.scope.literals → StaticsEnd W c.scope.statics → Present W.program (uses_in_statement W.function.body) →
      (parameters_are_first W.function.type.parameters W.function.objects ≡ true) × (statement_is_typed W.program W.function (numbers_in W.function.type.parameters) (length W.function.objects) W.function.body ≡ true)

  function_good : (b : Built) (f : FunctionTree) → IfFine (FunctionGood b) (function_typed b f)
  function_good b f =
      then_any (FunctionGood b) (specified b.scope f.start f.specifiers) _ (λ d.
      let u = inside (record d.scope { objects = [] }) in
      then_some (Stand W [] u) (FunctionGood b) (provided (units.all_named f.parameters) (parameters_in d.scope f.parameters)) _
      (part (Stand W [] u) (units.all_named f.parameters) (parameters_in d.scope f.parameters) (parameters_stand W [] 0 u f.parameters refl)) (λ ps st.
      let t = function_type d.base ps.types in
      let v = behind_parameters d.scope ps.scope in
      then_some (Leaves v) (FunctionGood b) (file_function v f.at f.name d.class t defined) (body_typed b f d.scope ps t) (at_file v f.at f.name (agreed (a_function t) (linkage_of_function d.class (lookup v f.name)) defined)) (λ file l.
      let B = body_scope file ps.scope d.scope in
      let A = around_of t in
      then_some (λ all. W.function.type.result ≡ t.result → AllGood W B all) (FunctionGood b) (pieces A None B f.body) (with_function b file f t)
      (delayed {H = W.function.type.result ≡ t.result} (λ h all. AllGood W B all) (pieces A None B f.body) (λ h. pieces_good W A (sym h) None B (deep d.scope.level ps.scope.level st.level) f.body)) (λ all make.
      part (FunctionGood b) (refuse_if (nat_lt b.stack (units.weight f t.parameters all.scope.objects)) code.WeightLimit f.at)
      (fine (record { stack = b.stack; scope = record file { literals = all.scope.literals; statics = all.scope.statics; objects = [] }; functions = b.functions ++ function_of f t all ∷ []; initial = b.initial ++ all.initial })) (λ e N T S x.
      body f d.scope file ps t refl st all make l.0 l.1 (last_is b.functions W.function (function_of f t all) e) N T S x)))))

  pub built_is_typed : (b c : Built) (f : FunctionTree) → function_typed b f ≡ fine c → FunctionGood b c
  built_is_typed b c f e = of_fine (FunctionGood b) (function_typed b f) c e (function_good b f)

pub function_is_typed : FunctionIsTyped
function_is_typed W b c f e h N T S u =
    let r = built_is_typed W b c f e h N T S u in
    (r.0, r.1, statement_defined W.program W.function (numbers_in W.function.type.parameters) (length W.function.objects) W.function.body r.1 u)
