-- Names at file scope: enumerators, functions (6.7.2.2, 6.2.7, 6.7p4).
use Rattle.std.proofs.Common.{◌≡◌, ℕ, nat_eq, ℤ, pos, ◌+ℤ◌, Bool, true, false, not, List, [], ◌∷◌, Option, Some, None, refl, sym, ap, ◌∙◌, subst, arith}
use Rattle.std.specs.Prelude.{if◌then◌else◌}
use Rattle.std.proofs.lemmas.Bool.{true≢false}
use Rattle.std.proofs.lemmas.Bool.Decides.{nat_tests}
use Rattle.srcset.specs.declared.code.Code.TheVariants as code
use Rattle.srcset.specs.declared.refusal.Pos.{Pos}
use Rattle.ctypes.specs.declared.types.IntType.TheVariants as ty
use Rattle.ctypes.specs.Types.{is_value_of}
use Rattle.tree.specs.Tree.{Tree, EnumeratorTree, SpecifierTree, extern_specifier, static_specifier, plain_specifier, enumerators_specifier, ItemTree}
use Rattle.typing_spec.specs.Types.{DeclaredType, FunctionType}
use Rattle.typing_spec.specs.Program as typed
use Rattle.typing_spec.specs.Program.{Storage, Function, Program}
use Rattle.typing_spec.specs.Verdict.{Verdict, fine, broken, then_check, provided, refuse_if, IfFine}
use Rattle.typing_spec.specs.Scope.{Scope, Binding, Meaning, an_object, an_array_parameter, a_function, an_enumerator, Linkage, no_linkage, State, mentioned, defined, lookup, tag_in, with_name, with_tag, strings}
use Rattle.typing_spec.specs.Expressions.{constant_value}
use Rattle.typing_spec.specs.Declarators.{is_fresh, fresh}
use Rattle.typing_spec.specs.Linkage.{agreed, as_built_in}
use Rattle.typing_spec.specs.Declarations as rules
use Rattle.typing_spec.specs.Declarations.{Specified}
use Rattle.lower_wf.specs.Settled.{MeaningFits}
use Rattle.lower_wf.proofs.Same.{same_number}
use Rattle.lower_wf.proofs.Verdicts.{then_any, then_some, both_any, part, tested, more_of, anything, each_parts, refused}
use Rattle.lower_wf.proofs.Ground.{same_some}
use Rattle.lower_wf.proofs.Scopes.{extends_none}
use Rattle.lower_wf_units.proofs.Files.{Stands, IsOfFile, IsFile, in_function, Final, Reaches}
use Rattle.lower_wf_units.proofs.FileSteps.{statics_self, of_file_on, reaches_self, reaches_on, reaches_literals, reaches_tag}

-- ---- a part after a test that is fine

pub guarded : {A : Type 0} (P : A → Type 0) (test : Verdict (Unit {0})) (v : Verdict A) → (test ≡ fine tt → IfFine P v) → IfFine P (provided test v)
guarded P (fine u) v h = part P (fine u) v (h refl)
guarded P (broken vs) v h = tt

-- ---- enumerators are values of int (6.7.2.2p2)

abbrev IsInt : ℤ → Type 0
IsInt v = is_value_of ty.Int v ≡ true

pub not_false : (b : Bool) → not b ≡ false → b ≡ true
not_false true h = refl
not_false false h = absurd (true≢false h)

fits_int_good : (at : Pos) (v : ℤ) → IfFine IsInt (rules.fits_int at v)
fits_int_good at v = tested IsInt (not (is_value_of ty.Int v)) code.EnumeratorOutOfRange at (fine v) (λ e. not_false (is_value_of ty.Int v) e)

value_good : (s : Scope) (next : ℤ) (at : Pos) (e : Option Tree) → IfFine IsInt (rules.value_of_enumerator s next at e)
value_good s next at None = fits_int_good at next
value_good s next at (Some e) = then_any IsInt (constant_value s e) (λ c. rules.fits_int at c.v) (λ c. fits_int_good at c.v)

-- ---- a name that is fresh denotes nothing at file scope (6.7p3)

number_self : (n : ℕ) → nat_eq n n ≡ true
number_self n = grind (arith, nat_tests)

nothing_before : (level : ℕ) (at : Pos) (o : Option Binding) → is_fresh level at o ≡ fine tt → ((b : Binding) → o ≡ Some b → b.level ≡ level) → o ≡ None
nothing_before level at None e h = refl
nothing_before level at (Some b) e h =
    absurd (true≢false (sym (number_self level) ∙ ap (λ l. nat_eq l level) (sym (h b refl)) ∙ refused (nat_eq b.level level) code.NameDeclaredTwice at e))

fresh_is_new : (s : Scope) → IsFile s → (at : Pos) (n : ℕ) → fresh s at n ≡ fine tt → lookup s n ≡ None
fresh_is_new s h at n e = nothing_before s.level at (lookup s n) e (λ b f. h.levels n b f ∙ sym h.level)

-- ---- the newest of the names

abbrev StandsBy : Option Binding → Meaning → Type 0
StandsBy o m = (b : Binding) × (o ≡ Some b) × (b.meaning ≡ m)

nothing_stands : (o : Option Binding) (m : Meaning) → o ≡ None → StandsBy o m → ⊥
nothing_stands o m e h = let f : None ≡ Some h.0 = sym e ∙ h.1 in absurd (cc)

by_name : (Q : Type 0) (new : Binding) (o : Option Binding) (m : Meaning) (n k : ℕ) (c : Bool) → c ≡ nat_eq n k → (n ≡ k → new.meaning ≡ m → Q) →
    (StandsBy o m → Q) → StandsBy (if c then Some new else o) m → Q
by_name Q new o m n k true e f g h = f (same_number n k (sym e)) (ap (λ (x : Binding). x.meaning) (same_some new h.0 h.1) ∙ h.2)
by_name Q new o m n k false e f g h = g h

still : (new : Binding) (o : Option Binding) (m : Meaning) (n k : ℕ) (c : Bool) → c ≡ nat_eq n k → (n ≡ k → new.meaning ≡ m) → StandsBy o m →
    StandsBy (if c then Some new else o) m
still new o m n k true e f h = (new, refl, f (same_number n k (sym e)))
still new o m n k false e f h = h

level_by : (new : Binding) (o : Option Binding) (c : Bool) → new.level ≡ 0 → ((b : Binding) → o ≡ Some b → b.level ≡ 0) → (b : Binding) →
    (if c then Some new else o) ≡ Some b → b.level ≡ 0
level_by new o true e h b f = ap (λ (x : Binding). x.level) (sym (same_some new b f)) ∙ e
level_by new o false e h b f = h b f

abbrev pub NoObject : Meaning → Type 0
NoObject (an_object what t) = ⊥
NoObject (an_array_parameter k u) = ⊥
NoObject (a_function t) = Unit {0}
NoObject (an_enumerator v) = Unit {0}

abbrev new_name : Scope → ℕ → Meaning → Linkage → State → Binding
new_name s n m l state = record { name = n; level = s.level; meaning = m; linkage = l; state = state }

pub stands_itself : (s : Scope) (n : ℕ) (m : Meaning) (l : Linkage) (state : State) → Stands (with_name s n m l state) n m
stands_itself s n m l state = (new_name s n m l state, ap (λ c. if c then Some (new_name s n m l state) else lookup s n) (number_self n), refl)

object_again : (s : Scope) (n : ℕ) (m : Meaning) (l : Linkage) (state : State) → NoObject m → (k : ℕ) (what : Storage) (t : DeclaredType) →
    Stands (with_name s n m l state) k (an_object what t) → Stands s k (an_object what t)
object_again s n m l state z k what t h =
    by_name (Stands s k (an_object what t)) (new_name s n m l state) (lookup s k) (an_object what t) n k (nat_eq n k) refl
    (λ e f. absurd (subst NoObject f z)) (λ g. g) h

-- a name that is no object's, and that denoted no function of another type, in front of a file's names
module _ (p : Program) (texts : List (List ℕ)) (definitions : List ℕ) where
  pub name_reaches : (s : Scope) (n : ℕ) (m : Meaning) (l : Linkage) (state : State) → IsFile s → NoObject m → IsOfFile s n m →
      ((t : FunctionType) → Stands s n (a_function t) → m ≡ a_function t) →
      (Final p texts definitions (with_name s n m l state) → (a : Function) → MeaningFits (in_function p texts definitions a) n m) →
      Reaches p texts definitions s [] (with_name s n m l state)
  name_reaches s n m l state h z o f g =
      let u = with_name s n m l state in
      let new = new_name s n m l state in (
        record {
          texts = refl;
          definitions = refl;
          literals = extends_none s.literals;
          statics = statics_self s.statics;
          functions = λ k t w. still new (lookup s k) (a_function t) n k (nat_eq n k) refl (λ e. f t (subst (λ i. Stands s i (a_function t)) (sym e) w)) w;
        },
        record {
          level = h.level;
          levels = λ k b e. level_by new (lookup s k) (nat_eq n k) h.level (h.levels k) b e;
          names = λ k x w. by_name (IsOfFile u k x) new (lookup s k) x n k (nat_eq n k) refl
              (λ e y. subst (IsOfFile u k) y (subst (λ i. IsOfFile u i m) e (of_file_on s u refl (extends_none s.statics) n m o)))
              (λ y. of_file_on s u refl (extends_none s.statics) k x (h.names k x y)) w;
          apart = λ k j i t v x y.
              h.apart k j i t v (object_again s n m l state z k (typed.static i) t x) (object_again s n m l state z j (typed.static i) v y);
        },
        λ N F. (λ a. let w = N a in (w.0, w.1, (g F a, w.2)), λ a. tt),
      )

  -- ---- specifiers (6.7.2)

  abbrev Leads : Scope → Scope → Type 0
  Leads s u = Reaches p texts definitions s [] u

  leads_on : (s t u : Scope) → Leads s t → Leads t u → Leads s u
  leads_on s t u g h = reaches_on p texts definitions s t u [] [] g h

  further : (s t : Scope) (v : Verdict Scope) → Leads s t → IfFine (Leads t) v → IfFine (Leads s) v
  further s t v g h = more_of (Leads t) (Leads s) v (λ u k. leads_on s t u g k) h

  past_reaches : (s : Scope) → IsFile s → (e : Option Tree) → Leads s (rules.past_option s e)
  past_reaches s h None = reaches_self p texts definitions s h
  past_reaches s h (Some e) = reaches_literals p texts definitions s (strings e) h

  past_names : (s : Scope) (e : Option Tree) (n : ℕ) → lookup (rules.past_option s e) n ≡ lookup s n
  past_names s None n = refl
  past_names s (Some e) n = refl

  enumerator_reaches : (s : Scope) → IsFile s → (n : ℕ) (v : ℤ) → lookup s n ≡ None → IsInt v → Leads s (with_name s n (an_enumerator v) no_linkage defined)
  enumerator_reaches s h n v e i =
      name_reaches s n (an_enumerator v) no_linkage defined h tt i (λ t w. absurd (nothing_stands (lookup s n) (a_function t) e w)) (λ F a. i)

  abbrev NewInt : Scope → ℕ → ℤ → Type 0
  NewInt s n v = IsInt v × (lookup s n ≡ None)

  new_int : (s : Scope) → IsFile s → (next : ℤ) (e : EnumeratorTree) →
      IfFine (NewInt s e.name) (provided (rules.fresh_enumerator s e.at e.name) (rules.value_of_enumerator s next e.at e.value))
  new_int s h next e =
      let other = as_built_in e.at (agreed (an_enumerator (pos 0)) no_linkage mentioned) (rules.built_in_at_file s e.name) in
      guarded (NewInt s e.name) (rules.fresh_enumerator s e.at e.name) (rules.value_of_enumerator s next e.at e.value) (λ f.
      let new = fresh_is_new s h e.at e.name (each_parts (fresh s e.at e.name) other f).0 in
      more_of IsInt (NewInt s e.name) (rules.value_of_enumerator s next e.at e.value) (λ v i. (i, new)) (value_good s next e.at e.value))

  enumerators_reach : (s : Scope) → IsFile s → (next : ℤ) (es : List EnumeratorTree) → IfFine (Leads s) (rules.enumerators s next es)
  enumerators_reach s h next [] = reaches_self p texts definitions s h
  enumerators_reach s h next (e ∷ es) =
      then_some (NewInt s e.name) (Leads s) (provided (rules.fresh_enumerator s e.at e.name) (rules.value_of_enumerator s next e.at e.value)) _
      (new_int s h next e) (λ v i.
      let t = rules.past_option s e.value in
      let u = with_name t e.name (an_enumerator v) no_linkage defined in
      let past = past_reaches s h e.value in
      let on = leads_on s t u past (enumerator_reaches t past.1 e.name v (past_names s e.value e.name ∙ i.1) i.0) in
      further s u (rules.enumerators u (v +ℤ pos 1) es) on (enumerators_reach u on.1 (v +ℤ pos 1) es))

  enumerated_reaches : (s : Scope) → IsFile s → (at : Pos) (tag : Option ℕ) (es : List EnumeratorTree) → IfFine (Leads s) (rules.enumerated s at tag es)
  enumerated_reaches s h at None es = enumerators_reach s h (pos 0) es
  enumerated_reaches s h at (Some t) es =
      let inner = with_tag s t false in
      let first = reaches_tag p texts definitions s t false h in
      part (Leads s) (rules.is_fresh_tag s.level at (tag_in s.tags t)) (then_check (rules.enumerators inner (pos 0) es) (λ u. fine (with_tag u t true)))
      (then_some (Leads inner) (Leads s) (rules.enumerators inner (pos 0) es) (λ u. fine (with_tag u t true)) (enumerators_reach inner first.1 (pos 0) es)
      (λ u g.
      leads_on s u (with_tag u t true) (leads_on s inner u first g) (reaches_tag p texts definitions u t true g.1)))

  lists_reach : (s : Scope) → IsFile s → (at : Pos) (ss : List SpecifierTree) → IfFine (Leads s) (rules.with_lists s at ss)
  lists_reach s h at [] = reaches_self p texts definitions s h
  lists_reach s h at (extern_specifier ∷ ss) = lists_reach s h at ss
  lists_reach s h at (static_specifier ∷ ss) = lists_reach s h at ss
  lists_reach s h at (plain_specifier t ∷ ss) = lists_reach s h at ss
  lists_reach s h at (enumerators_specifier tag list ∷ ss) =
      then_some (Leads s) (Leads s) (rules.enumerated s at tag list) (λ u. rules.with_lists u at ss) (enumerated_reaches s h at tag list)
      (λ u g. further s u (rules.with_lists u at ss) g (lists_reach u g.1 at ss))

  abbrev pub SaidReaches : Scope → Specified → Type 0
  SaidReaches s d = Reaches p texts definitions s [] d.scope

  pub specified_reaches : (s : Scope) → IsFile s → (at : Pos) (ss : List SpecifierTree) → IfFine (SaidReaches s) (rules.specified s at ss)
  specified_reaches s h at ss =
      then_some (Leads s) (SaidReaches s) (rules.with_lists s at ss) _ (lists_reach s h at ss) (λ u g.
      both_any (λ b. Unit {0}) (SaidReaches s) (rules.class_of at (rules.classes_of ss)) (rules.base_in u at (rules.lists_in ss) (rules.plain_of ss))
      (λ c b. fine (record { class = c; base = b; scope = u }))
      (anything (rules.base_in u at (rules.lists_in ss) (rules.plain_of ss))) (λ c b x. g))

  pub specified_for_reaches : (s : Scope) → IsFile s → (at : Pos) (ss : List SpecifierTree) (items : List ItemTree) →
      IfFine (SaidReaches s) (rules.specified_for s at ss items)
  specified_for_reaches s h at ss items =
      then_some (SaidReaches s) (SaidReaches s) (rules.specified s at ss) _ (specified_reaches s h at ss) (λ d g.
      part (SaidReaches s) (refuse_if (rules.declares_nothing ss items) code.DeclaresNothing at) (fine d) g)
