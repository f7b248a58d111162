-- The effects of a declarator (6.7): its statement, its first values, its name.
use Rattle.std.proofs.Common.{◌≡◌, ◌≤◌, ◌<◌, ℕ, zero, suc, ◌+◌, ℤ, Bool, true, false, ◌&&◌, nat_le, nat_lt, List, [], ◌∷◌, ◌++◌, length, Option, Some, None, refl, sym, ap, ◌∙◌, subst, arith}
use Rattle.std.specs.Prelude.{slice_get}
use Rattle.std.proofs.lemmas.Bool.{and_from}
use Rattle.std.proofs.lemmas.Bool.Decides.{nat_tests}
use Rattle.std.proofs.lemmas.List.{length-append}
use Rattle.srcset.specs.declared.refusal.Pos.{Pos}
use Rattle.ctypes.specs.declared.types.IntType.{IntType}
use Rattle.tree.specs.Tree.{Tree, hole, identifier, constant, string, paren, call, subscript, after, before, prefix, size_of, size_of_type, cast, binary, conditional, assign, Init, init_hole, one_init, braced_init, Inits}
use Rattle.typing_spec.specs.Types.{ObjectType, DeclaredType, complete, unknown_size, elements_in, array_of}
use Rattle.typing_spec.specs.Program as typed
use Rattle.typing_spec.specs.Program.{Initialiser, Statement, Static}
use Rattle.typing_spec.specs.Verdict.{Verdict, fine, both, then_check, IfFine}
use Rattle.typing_spec.specs.Scope.{Scope}
use Rattle.typing_spec.specs.Initialisers.{has_characters, text_alone, count_of, strings_of, past_init, initialiser, constant_parts, values, wanted, an_array}
use Rattle.typing_spec.specs.Declarations as rules
use Rattle.typing_spec.specs.Declarations.{Initial, Effects, no_effects, and_effects, Declared, before_others, element_of, wanted_by, lengths_of}
use Rattle.typing_spec.specs.Nodes.{object_type}
use Rattle.typing_spec.specs.Uses.{uses_in_statement}
use Rattle.typing_spec.specs.WellTyped.{values_fit, definition_is_typed, statement_is_typed}
use Rattle.lower_wf.proofs.Verdicts.{then_any, then_some, both_some, more_of, delayed}
use Rattle.lower_wf.proofs.Ground.{Setting, Present, Names, TextsEnd, RowsAre, Fits, fits_self}
use Rattle.lower_wf.proofs.Typings.{get_last}
use Rattle.lower_wf.proofs.Initials.{Room, TextRoom, BracedRoom, Shape, InitGood, initialiser_good, open_good}
use Rattle.lower_wf.proofs.Values.{single_laid, many_laid}
use Rattle.lower_wf.proofs.Scopes.{Grown, stays, onwards, longer, Wider, IsWider, lengths_more, rows_by, Ends, earlier}
use Rattle.lower_wf.proofs.Specifiers.{Leads}

module _ (W : Setting) where
  abbrev pub StatementTyped : ℕ → ℕ → Statement → Type 0
  StatementTyped lo hi x = Present W.program (uses_in_statement x) → statement_is_typed W.program W.function lo hi x ≡ true

  abbrev pub AllTyped : ℕ → ℕ → List Statement → Type 0
  AllTyped lo hi [] = Unit {0}
  AllTyped lo hi (x ∷ xs) = StatementTyped lo hi x × AllTyped lo hi xs

  abbrev pub EntryGood : Initial → Type 0
  EntryGood i = (o : Static) → slice_get W.program.statics i.static ≡ Some o → (length i.values ≤ elements_in o.type.lengths) × (values_fit o.type.element i.values ≡ true)

  abbrev pub InitialsGood : List Initial → Type 0
  InitialsGood [] = Unit {0}
  InitialsGood (i ∷ is) = EntryGood i × InitialsGood is

  abbrev pub EffectsGood : ℕ → ℕ → Effects → Type 0
  EffectsGood a b e = (lo hi : ℕ) → lo ≤ a → b ≤ hi → AllTyped lo hi e.statements

  -- from scope s to scope u, doing this
  abbrev pub ItemGood : Scope → Scope → Effects → Type 0
  ItemGood s u e = Grown s u × (Names W s → Ends W u → Names W u × EffectsGood (length s.objects) (length u.objects) e × InitialsGood e.initial)

  abbrev pub DeclaredGood : Scope → Declared → Type 0
  DeclaredGood s d = ItemGood s d.scope d.effects

  all_typed : (lo hi : ℕ) (xs ys : List Statement) → AllTyped lo hi xs → AllTyped lo hi ys → AllTyped lo hi (xs ++ ys)
  all_typed lo hi [] ys h k = k
  all_typed lo hi (x ∷ xs) ys h k = (h.0, all_typed lo hi xs ys h.1 k)

  pub all_initials : (xs ys : List Initial) → InitialsGood xs → InitialsGood ys → InitialsGood (xs ++ ys)
  all_initials [] ys h k = k
  all_initials (x ∷ xs) ys h k = (h.0, all_initials xs ys h.1 k)

  pub join : (s t u : Scope) (a b : Effects) → ItemGood s t a → ItemGood t u b → ItemGood s u (and_effects a b)
  join s t u a b g h = (
    onwards s t u g.0 h.0,
    λ N E.
        let x = g.1 N (earlier W t u h.0 E) in
        let y = h.1 x.0 E in
        let here = longer s t g.0 in
        let there = longer t u h.0 in (
          y.0,
          λ lo hi l k. all_typed lo hi a.statements b.statements (x.1 lo hi l (omega (arith, k, there))) (y.1 lo hi (omega (arith, l, here)) k),
          all_initials a.initial b.initial x.2 y.2,
        ),
  )

  pub after_leads : (s t u : Scope) (e : Effects) → Leads W s t → ItemGood t u e → ItemGood s u e
  after_leads s t u e g h = (
    onwards s t u g.0 h.0,
    λ N E. let y = h.1 (g.1 N) E in let here = longer s t g.0 in (y.0, λ lo hi l k. y.1 lo hi (omega (arith, l, here)) k, y.2),
  )

  pub nothing_done : (s : Scope) → ItemGood s s no_effects
  nothing_done s = (stays s, λ N E. (N, λ lo hi l k. tt, tt))

  -- ---- an item after which the scope is known

  abbrev EG : Scope → Scope → Effects → Type 0
  EG s u e = EffectsGood (length s.objects) (length u.objects) e × InitialsGood e.initial

  abbrev Given : Scope → Scope → Type 0
  Given s u = Names W s × Ends W u

  pub known : (s u : Scope) (v : Verdict Effects) → Grown s u → (Names W s → Ends W u → Names W u) → (Names W s → Ends W u → IfFine (EG s u) v) → IfFine (ItemGood s u) v
  known s u v g n h =
      more_of (λ e. Given s u → EG s u e) (ItemGood s u) v (λ e k. (g, λ N E. let z = k (N, E) in (n N E, z.0, z.1))) (delayed {H = Given s u} (λ q e. EG s u e) v (λ q. h q.0 q.1))

  pub known_more : (s u : Scope) (v : Verdict Effects) (rest : Verdict Declared) → IfFine (ItemGood s u) v → IfFine (DeclaredGood u) rest → IfFine (DeclaredGood s) (both v rest before_others)
  known_more s u v rest g h = both_some (ItemGood s u) (DeclaredGood u) (DeclaredGood s) v rest before_others g h (λ e d i k. join s u d.scope e d.effects i k)

  -- one of the scopes R m, for an m of which M holds
  abbrev Which : (ℕ → Type 0) → Type 0
  Which M = (m : ℕ) × M m

  abbrev Behind : (ℕ → Scope) → (ℕ → Type 0) → Declared → Type 0
  Behind R M d = (m : ℕ) × M m × DeclaredGood (R m) d

  pub open_more : (s : Scope) (R : ℕ → Scope) (M : ℕ → Type 0) (v : Verdict Effects) (w : Verdict Scope) (go : Scope → Verdict Declared) → ((m : ℕ) → M m → IfFine (ItemGood s (R m)) v) → IfFine (λ u. (m : ℕ) × M m × (u ≡ R m)) w →
      ((u : Scope) → (m : ℕ) → u ≡ R m → IfFine (DeclaredGood u) (go u)) → IfFine (DeclaredGood s) (both v (then_check w go) before_others)
  open_more s R M v w go g h k =
      both_some (λ e. (z : Which M) → ItemGood s (R z.0) e) (Behind R M) (DeclaredGood s) v (then_check w go) before_others (delayed {H = Which M} (λ z e. ItemGood s (R z.0) e) v (λ z. g z.0 z.1))
      (then_some (λ u. (m : ℕ) × M m × (u ≡ R m)) (Behind R M) w go h (λ u z. more_of (DeclaredGood u) (Behind R M) (go u) (λ d i. (z.0, z.1, subst (λ x. DeclaredGood x d) z.2 i)) (k u z.0 z.2)))
      (λ e d i z. join s (R z.0) d.scope e d.effects (i (z.0, z.1)) z.2)

  -- ---- statements of one object

  at_least : (a b : ℕ) → a ≤ b → nat_le a b ≡ true
  at_least a b h = grind (arith, nat_tests, h)

  below : (a b : ℕ) → a < b → nat_lt a b ≡ true
  below a b h = grind (arith, nat_tests, h)

  pub declare_typed : (lo hi n : ℕ) → lo ≤ n → n < hi → StatementTyped lo hi (typed.declare n)
  declare_typed lo hi n l h u = and_from (nat_le lo n) (nat_lt n hi) (at_least lo n l) (below n hi h)

  pub define_typed : (lo hi n : ℕ) (t : ObjectType) (x : Initialiser) → slice_get W.function.objects n ≡ Some t → lo ≤ n → n < hi → InitGood W t.element t.lengths x → StatementTyped lo hi (typed.define n x)
  define_typed lo hi n t x e l h g u =
      and_from (nat_le lo n) (nat_lt n hi && definition_is_typed W.program W.function (slice_get W.function.objects n) x) (at_least lo n l)
      (and_from (nat_lt n hi) (definition_is_typed W.program W.function (slice_get W.function.objects n) x) (below n hi h) (ap (λ o. definition_is_typed W.program W.function o x) e ∙ g.0 u))

  pub object_end : (s u : Scope) (t : ObjectType) → u.objects ≡ s.objects ++ t ∷ [] → Ends W u → slice_get W.function.objects (length s.objects) ≡ Some t
  object_end s u t e E = E.2 (length s.objects) t (subst (λ l. slice_get l (length s.objects) ≡ Some t) (sym e) (get_last s.objects t))

  pub one_longer : (s u : Scope) (t : ObjectType) → u.objects ≡ s.objects ++ t ∷ [] → length u.objects ≡ length s.objects + 1
  one_longer s u t e = ap length e ∙ length-append s.objects (t ∷ [])

  pub object_fits : (t : ObjectType) (o : Option ObjectType) → o ≡ Some t → Fits (complete t) (object_type o)
  object_fits t o e = subst (λ x. Fits (complete t) (object_type x)) (sym e) (fits_self t)

  pub row_fits : (m : ℕ) (t : ObjectType) (o : Option ObjectType) → o ≡ Some (array_of m t) → RowsAre t (object_type o)
  row_fits m t o e = rows_by t.element t.constant m t.lengths (object_type o) (ap object_type e)

  -- ---- the first values of an object with static storage

  abbrev Laid : IntType → List ℕ → List ℤ → Type 0
  Laid t l vs = (values_fit t vs ≡ true) × (length vs ≤ elements_in l)

  abbrev pub static_verdict : Scope → Pos → DeclaredType → ℕ → Init → Verdict Effects
  static_verdict s at T n i =
      then_check (constant_parts s (element_of T) (wanted_by T) i) (λ u.
      then_check (initialiser s at (element_of T) (wanted_by T) true i) (λ x.
      then_check (values (past_init s i) (element_of T) (lengths_of T) x) (λ vs.
      fine (record { statements = []; initial = record { static = n; values = vs } ∷ [] }))))

  entry_good : (t : ObjectType) (n : ℕ) (vs : List ℤ) → IsWider t (slice_get W.program.statics n) → Laid t.element t.lengths vs → EntryGood (record { static = n; values = vs })
  entry_good t n vs h g o e =
      let w : Wider t o.type = subst (IsWider t) e h in
      let more = lengths_more t.lengths o.type.lengths w.2 in
      (omega (arith, g.1, more), subst (λ k. values_fit k vs ≡ true) (sym w.0) g.0)

  laid_by : (s : Scope) → s.texts ≡ W.texts → TextsEnd W s.literals → (t : IntType) (l : List ℕ) (x : Initialiser) → Shape W l x → IfFine (Laid t l) (values s t l x)
  laid_by s e T t [] x h = single_laid W s e T t x h
  laid_by s e T t (n ∷ l) x h = many_laid W s e T t n n l x h

  abbrev pub NoneDone : Effects → Type 0
  NoneDone e = ((a b : ℕ) → EffectsGood a b e) × InitialsGood e.initial

  pub static_complete : (s : Scope) (at : Pos) (t : ObjectType) (n : ℕ) (i : Init) → Names W s → TextsEnd W (s.literals ++ strings_of i) → IsWider t (slice_get W.program.statics n) → IfFine NoneDone (static_verdict s at (complete t) n i)
  static_complete s at t n i N T h =
      then_any NoneDone (constant_parts s t.element (wanted t.lengths) i) _ (λ u.
      then_some (InitGood W t.element t.lengths) NoneDone (initialiser s at t.element (wanted t.lengths) true i) _ (initialiser_good W s at t.element t.lengths true i N T) (λ x g.
      then_some (Laid t.element t.lengths) NoneDone (values (past_init s i) t.element t.lengths x) _ (laid_by (past_init s i) N.0 T t.element t.lengths x g.1) (λ vs k.
      (λ a b lo hi l m. tt, (entry_good t n vs h k, tt)))))

  pub static_open : (s : Scope) (at : Pos) (t : ObjectType) (m n : ℕ) (i : Init) → Names W s → TextsEnd W (s.literals ++ strings_of i) → Room s None m (has_characters t.element t.lengths) i → IsWider (array_of m t) (slice_get W.program.statics n) →
      IfFine NoneDone (static_verdict s at (unknown_size t) n i)
  static_open s at t m n i N T r h =
      then_any NoneDone (constant_parts s t.element (an_array None t.lengths) i) _ (λ u.
      then_some (InitGood W t.element (m ∷ t.lengths)) NoneDone (initialiser s at t.element (an_array None t.lengths) true i) _ (open_good W s at t.element m t.lengths true i N T r) (λ x g.
      then_some (Laid t.element (m ∷ t.lengths)) NoneDone (values (past_init s i) t.element (1 ∷ t.lengths) x) _ (many_laid W (past_init s i) N.0 T t.element 1 m t.lengths x g.1) (λ vs k.
      (λ a b lo hi l q. tt, (entry_good (array_of m t) n vs h k, tt)))))

-- ---- the length that an initialiser gives is at least one, and there is room (6.7.9p22)

abbrev pub LengthGood : Scope → ObjectType → Init → ℕ → Type 0
LengthGood s t i m = Room s None m (has_characters t.element t.lengths) i × (0 < m)

abbrev TextGood : Scope → Tree → ℕ → Type 0
TextGood s e m = TextRoom s None m e × (0 < m)

text_form : (s : Scope) (b : Bool) (at : Pos) (e : Tree) → IfFine (TextGood s e) (rules.text_or_form s b at e)
text_form s false at e = tt
text_form s true at (string own n) = (λ h. omega arith, omega arith)
text_form s true at hole = tt
text_form s true at (identifier p n) = tt
text_form s true at (constant p u v) = tt
text_form s true at (paren a) = tt
text_form s true at (call p f given) = tt
text_form s true at (subscript p a i) = tt
text_form s true at (after p o a) = tt
text_form s true at (before p o a) = tt
text_form s true at (prefix p o a) = tt
text_form s true at (size_of p a) = tt
text_form s true at (size_of_type p u) = tt
text_form s true at (cast p u a) = tt
text_form s true at (binary p o a b) = tt
text_form s true at (conditional p c a b) = tt
text_form s true at (assign p o a b) = tt

abbrev BracedGood : Scope → Bool → Inits → Option Tree → ℕ → Type 0
BracedGood s b parts o m = BracedRoom s None m b parts o × (0 < m)

text_count : (s : Scope) (b : Bool) (at : Pos) (parts : Inits) (o : Option Tree) (n : ℕ) → n ≡ count_of parts → IfFine (BracedGood s b parts o) (rules.text_or_count s b at o n)
text_count s true at parts (Some e) n h = text_form s true at e
text_count s true at parts None zero h = tt
text_count s true at parts None (suc n) h = (λ x. omega (arith, h), omega arith)
text_count s false at parts o zero h = tt
text_count s false at parts o (suc n) h = (λ x. omega (arith, h), omega arith)

pub length_good : (s : Scope) (at : Pos) (t : ObjectType) (i : Init) → IfFine (LengthGood s t i) (rules.length_from s at t i)
length_good s at t init_hole = tt
length_good s at t (one_init e) = text_form s (has_characters t.element t.lengths) at e
length_good s at t (braced_init p parts) = text_count s (has_characters t.element t.lengths) p parts (text_alone parts) (count_of parts) refl
