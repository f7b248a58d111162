-- The function that a definition adds, at file scope (6.9.1).
use Rattle.std.proofs.Common.{◌≡◌, ℕ, ◌+◌, ◌-◌, nat_lt, List, [], ◌∷◌, ◌++◌, length, take, None, refl, sym, ap, ◌∙◌, subst, arith}
use Rattle.std.specs.Prelude.{slice_get}
use Rattle.std.proofs.lemmas.List.{length-append}
use Rattle.srcset.specs.declared.code.Code.TheVariants as code
use Rattle.srcset.specs.declared.refusal.Pos.{Pos}
use Rattle.tree.specs.Tree.{FunctionTree}
use Rattle.typing_spec.specs.Types.{FunctionType}
use Rattle.typing_spec.specs.Program as typed
use Rattle.typing_spec.specs.Program.{Function, Program}
use Rattle.typing_spec.specs.Verdict.{fine, then_check, provided, refuse_if, IfFine}
use Rattle.typing_spec.specs.Scope.{Scope, Binding, Meaning, an_object, an_array_parameter, a_function, an_enumerator, State, defined, lookup, with_name, built_in, inside}
use Rattle.typing_spec.specs.Declarators.{Parameters, parameters_in, behind_parameters, function_type}
use Rattle.typing_spec.specs.Linkage.{StorageClass, Agreed, agreed, linkage_of_function, as_built_in, redeclared, declared_at_file, agreed_in, with_storage, file_function}
use Rattle.typing_spec.specs.Declarations.{Initial, specified}
use Rattle.typing_spec.specs.Statements.{AllDone, pieces}
use Rattle.typing_spec.specs.Units as units
use Rattle.typing_spec.specs.Units.{Built, function_typed, function_of, body_typed, with_function, body_scope, newer, around_of}
use Rattle.lower_wf.specs.Settled.{Setting, AllFit, Names, Ends}
use Rattle.lower_wf.proofs.Verdicts.{then_any, then_some, part, both_of, is_fine, delayed, more_of}
use Rattle.lower_wf.proofs.Scopes.{Extends, extends_none, Grown, earlier}
use Rattle.lower_wf.proofs.Items.{InitialsGood}
use Rattle.lower_wf.proofs.Statements.{AllGood, pieces_good}
use Rattle.lower_wf.proofs.Blocks.{Deep}
use Rattle.lower_wf.proofs.Parameters.{Stand, parameters_stand}
use Rattle.lower_wf.proofs.Bodies.{function_is_typed}
use Rattle.lower_wf_units.proofs.Files.{Stands, IsFile, in_function, Final, Named, HaveRoom, Reaches}
use Rattle.lower_wf_units.proofs.FileSteps.{Keeps, reaches_keeping, reaches_on, final_earlier}
use Rattle.lower_wf_units.proofs.FileNames.{specified_reaches}
use Rattle.lower_wf_units.proofs.FileFunctionNames.{function_reaches}
use Rattle.lower_wf_units.proofs.FilePassed.{Passed, no_function}

-- ---- a declaration of a function adds no string literal

abbrev SameLiterals : Scope → Scope → Type 0
SameLiterals s u = u.literals ≡ s.literals

stored : (s : Scope) (state : State) (m : Meaning) → SameLiterals s (with_storage s state m)
stored s state (an_object (typed.static n) t) = refl
stored s state (an_object (typed.literal n) t) = refl
stored s state (an_object (typed.automatic n) t) = refl
stored s state (an_object (typed.parameter n) t) = refl
stored s state (an_array_parameter n t) = refl
stored s state (a_function f) = refl
stored s state (an_enumerator v) = refl

at_file : (s : Scope) (at : Pos) (n : ℕ) (new : Agreed) → IfFine (SameLiterals s) (declared_at_file s at n new)
at_file s at n new =
    part (SameLiterals s) (as_built_in at new (built_in s n)) (then_check (redeclared at new (lookup s n)) (agreed_in s n))
    (then_any (SameLiterals s) (redeclared at new (lookup s n)) (agreed_in s n) (λ a. stored (with_name s n a.meaning a.linkage a.state) a.state a.meaning))

-- ---- the newest of a list

taken_all : (xs ys : List Binding) → take (length xs) (xs ++ ys) ≡ xs
taken_all [] ys = refl
taken_all (x ∷ xs) ys = ap (λ l. x ∷ l) (taken_all xs ys)

newest : (xs ys all : List Binding) → all ≡ xs ++ ys → newer all ys ≡ xs
newest xs ys all e =
    let n : length all - length ys ≡ length xs = (let f = ap length e in let g = length-append xs ys in omega (arith, f, g)) in
    ap (λ k. take k all) n ∙ ap (take (length xs)) e ∙ taken_all xs ys

fits_both : (W : Setting) (xs ys : List Binding) → AllFit W xs → AllFit W ys → AllFit W (xs ++ ys)
fits_both W [] ys h k = k
fits_both W (x ∷ xs) ys h k = (h.0, fits_both W xs ys h.1 k)

deep : (a b : ℕ) → b ≡ a + 1 → Deep b
deep a b e z = omega (arith, e, z)

-- room for first values is a matter of the program alone
same_room : (V W : Setting) → W.program ≡ V.program → (is : List Initial) → InitialsGood V is → InitialsGood W is
same_room V W e [] h = tt
same_room V W e (i ∷ is) h = (λ o f. h.0 o (ap (λ p. slice_get p.statics i.static) (sym e) ∙ f), same_room V W e is h.1)

module _ (p : Program) (texts : List (List ℕ)) (definitions : List ℕ) where
  abbrev In : Function → Setting
  In g = in_function p texts definitions g

  -- the scope after a definition
  abbrev behind_body : Scope → AllDone → Scope
  behind_body file all = record file { literals = all.scope.literals; statics = all.scope.statics; objects = [] }

  -- the additions of a function's body to the scope, and its first values
  abbrev Gives : FunctionType → Type 0
  Gives t = (W : Setting) × (W.function.type.result ≡ t.result)

  abbrev BodyGood : FunctionType → Scope → AllDone → Type 0
  BodyGood t B all = (w : Gives t) → AllGood w.0 B all

  abbrev ParametersStand : Scope → Parameters → Type 0
  ParametersStand u ps = (W : Setting) → Stand W [] u ps

  body_keeps : (file outer : Scope) (ps : Parameters) (all : AllDone) → file.literals ≡ ps.scope.literals → Grown (body_scope file ps.scope outer) all.scope →
      Keeps file (behind_body file all)
  body_keeps file outer ps all e g = record {
    texts = refl;
    definitions = refl;
    bindings = refl;
    level = refl;
    literals = subst (λ l. Extends l all.scope.literals) (sym e) g.literals;
    statics = g.statics;
  }

  -- the first values in a body have room
  body_room : (f : FunctionTree) (outer file : Scope) (ps : Parameters) (t : FunctionType) → t.parameters ≡ ps.types →
      ParametersStand (inside (record outer { objects = [] })) ps → (all : AllDone) →
      BodyGood t (body_scope file ps.scope outer) all → file.texts ≡ outer.texts → file.definitions ≡ outer.definitions → Named p texts definitions file →
      Final p texts definitions (behind_body file all) → HaveRoom p texts definitions all.initial
  body_room f outer file ps t types stand all make te de N F a =
      let W = In (function_of f t all) in
      let st = stand W in
      let g = make (W, refl) in
      let B = body_scope file ps.scope outer in
      let E : Ends W all.scope = (F.literals (function_of f t all), F.statics (function_of f t all), λ n o e. e) in
      let n = N (function_of f t all) in
      let new = newest st.names outer.bindings ps.scope.bindings st.names_are in
      let fit = st.fit types (earlier W B all.scope g.0 E).2 in
      let bindings : AllFit W B.bindings = subst (λ l. AllFit W (l ++ file.bindings)) (sym new) (fits_both W st.names file.bindings fit n.2) in
      let names : Names W B = (st.texts ∙ sym te ∙ n.0, st.definitions ∙ sym de ∙ n.1, bindings) in
      same_room W (In a) refl all.initial (g.1 names E).1

  abbrev Reached : Scope → Scope → Type 0
  Reached s u = Reaches p texts definitions s [] u

  -- all that a definition does, but for its types
  abbrev Defines : Built → FunctionTree → Built → Type 0
  Defines b f c = (g : Function) × (more : List Initial) × (c.functions ≡ b.functions ++ g ∷ []) × (g.name ≡ f.name) ×
      (c.initial ≡ b.initial ++ more) × Reaches p texts definitions b.scope more c.scope × Stands c.scope f.name (a_function g.type)

  defined_by : (b : Built) (f : FunctionTree) (outer file : Scope) (ps : Parameters) (t : FunctionType) → t.parameters ≡ ps.types →
      ParametersStand (inside (record outer { objects = [] })) ps → (all : AllDone) →
      BodyGood t (body_scope file ps.scope outer) all → file.literals ≡ ps.scope.literals → file.texts ≡ outer.texts → file.definitions ≡ outer.definitions →
      Reached b.scope file → Stands file f.name (a_function t) →
      IfFine (Defines b f) (with_function b file f t all)
  defined_by b f outer file ps t types stand all make le te de R there =
      let u = behind_body file all in
      let K = reaches_keeping p texts definitions file u (body_keeps file outer ps all le (make (In (function_of f t all), refl)).0) R.1 in
      let J = reaches_on p texts definitions b.scope file u [] [] R K in
      let room = λ (N : Named p texts definitions b.scope) (F : Final p texts definitions u).
      body_room f outer file ps t types stand all make te de (R.2 N (final_earlier p texts definitions file u K.0 F)).0 F in
      part (Defines b f) (refuse_if (nat_lt b.stack (units.weight f t.parameters all.scope.objects)) code.WeightLimit f.at)
      (fine (record { stack = b.stack; scope = u; functions = b.functions ++ function_of f t all ∷ []; initial = b.initial ++ all.initial }))
      (function_of f t all, all.initial, refl, refl, refl, (J.0, J.1, λ N F. ((J.2 N F).0, room N F)), there)

  abbrev FileGood : Scope → FunctionTree → FunctionType → Scope → Type 0
  FileGood v f t file = SameLiterals v file × (Reached v file × Stands file f.name (a_function t))

  file_good : (v : Scope) → IsFile v → (f : FunctionTree) (class : StorageClass) (t : FunctionType) →
      IfFine (FileGood v f t) (file_function v f.at f.name class t defined)
  file_good v h f class t =
      both_of (SameLiterals v) (λ u. Reached v u × Stands u f.name (a_function t)) (file_function v f.at f.name class t defined)
      (at_file v f.at f.name (agreed (a_function t) (linkage_of_function class (lookup v f.name)) defined))
      (function_reaches p texts definitions v h f.at f.name class t defined)

  behind_reached : (s : Scope) (ps : Parameters) → IsFile s → ParametersStand (inside (record s { objects = [] })) ps →
      Reached s (behind_parameters s ps.scope)
  behind_reached s ps h st =
      let more = (st (In no_function)).literals in
      reaches_keeping p texts definitions s (behind_parameters s ps.scope)
      (record { texts = refl; definitions = refl; bindings = refl; level = refl; literals = more; statics = extends_none s.statics }) h

  definition_good : (b : Built) → IsFile b.scope → (f : FunctionTree) → IfFine (Defines b f) (function_typed b f)
  definition_good b h f =
      then_some (λ d. Reached b.scope d.scope) (Defines b f) (specified b.scope f.start f.specifiers) _
      (specified_reaches p texts definitions b.scope h f.start f.specifiers)
      (λ d r.
      let u = inside (record d.scope { objects = [] }) in
      then_some (ParametersStand u) (Defines b f) (provided (units.all_named f.parameters) (parameters_in d.scope f.parameters)) _
      (part (ParametersStand u) (units.all_named f.parameters) (parameters_in d.scope f.parameters)
      (delayed {H = Setting} (λ W ps. Stand W [] u ps) (parameters_in d.scope f.parameters) (λ W. parameters_stand W [] 0 u f.parameters refl))) (λ ps st.
      let t = function_type d.base ps.types in
      let v = behind_parameters d.scope ps.scope in
      let q = behind_reached d.scope ps r.1 st in
      then_some (FileGood v f t) (Defines b f) (file_function v f.at f.name d.class t defined) (body_typed b f d.scope ps t) (file_good v q.1 f d.class t)
      (λ file k.
      let B = body_scope file ps.scope d.scope in
      let A = around_of t in
      let R = reaches_on p texts definitions b.scope v file [] [] (reaches_on p texts definitions b.scope d.scope v [] [] r q) k.1.0 in
      then_some (BodyGood t B) (Defines b f) (pieces A None B f.body) (with_function b file f t)
      (delayed {H = Gives t} (λ w all. AllGood w.0 B all) (pieces A None B f.body)
      (λ w. pieces_good w.0 A (sym w.1) None B (deep d.scope.level ps.scope.level (st w.0).level) f.body)) (λ all make.
      defined_by b f d.scope file ps t refl st all make k.0 k.1.0.0.texts k.1.0.0.definitions R k.1.1))))

  defines_passes : (b c : Built) (f : FunctionTree) → function_typed b f ≡ fine c → Defines b f c → Passed p texts definitions b (f.name ∷ []) c
  defines_passes b c f e d = record {
    more = d.1;
    initial = d.4;
    added = d.0 ∷ [];
    functions = d.2;
    named = ap (λ n. n ∷ []) d.3;
    reaches = d.5;
    stand = (subst (λ n. Stands c.scope n (a_function d.0.type)) (sym d.3) d.6, tt);
    bodies = λ N F. (λ u. let r = function_is_typed (In d.0) b c f e d.2 ((d.5.2 N F).0 d.0) (F.literals d.0) (F.statics d.0) u in (r.0, r.1), tt);
  }

  pub function_passed : (b : Built) → IsFile b.scope → (f : FunctionTree) → IfFine (Passed p texts definitions b (f.name ∷ [])) (function_typed b f)
  function_passed b h f =
      more_of (λ c. (function_typed b f ≡ fine c) × Defines b f c) (Passed p texts definitions b (f.name ∷ [])) (function_typed b f)
      (λ c d. defines_passes b c f d.0 d.1)
      (both_of (λ c. function_typed b f ≡ fine c) (Defines b f) (function_typed b f) (is_fine (function_typed b f)) (definition_good b h f))
