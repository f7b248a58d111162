-- Statements that the checker's rules take are typed (6.8).
use Rattle.std.proofs.Common.{◌≡◌, ◌≤◌, ℕ, ◌+◌, ◌-◌, Bool, true, false, ◌&&◌, ◌||◌, nat_le, ℤ, List, [], ◌∷◌, ◌++◌, length, Option, Some, None, refl, sym, ◌∙◌, subst, arith}
use Rattle.std.specs.Prelude.{if◌then◌else◌}
use Rattle.std.proofs.lemmas.Bool.{and_from}
use Rattle.std.proofs.lemmas.Bool.Decides.{nat_tests}
use Rattle.srcset.specs.declared.code.Code.{Code}
use Rattle.srcset.specs.declared.code.Code.TheVariants as code
use Rattle.srcset.specs.declared.refusal.Pos.{Pos}
use Rattle.ctypes.specs.declared.types.IntType.{IntType}
use Rattle.ctypes.specs.Types.{promoted}
use Rattle.tree.specs.Tree.{Tree, StartTree, expression_start, declaration_start, StmtTree, stmt_hole, block_stmt, empty_stmt, expression_stmt, if_stmt, if_else_stmt, switch_stmt, case_stmt, default_stmt, while_stmt, do_while_stmt, for_stmt, break_stmt, continue_stmt, return_stmt, declaration_item, statement_item, Pieces, no_pieces, and_piece}
use Rattle.typing_spec.specs.Types.{same_result}
use Rattle.typing_spec.specs.Program as typed
use Rattle.typing_spec.specs.Program.{Value, Statement, Statements}
use Rattle.typing_spec.specs.Verdict.{Verdict, fine, breaks, both, then_check, IfFine}
use Rattle.typing_spec.specs.Scope.{Scope, inside, outside, past, strings}
use Rattle.typing_spec.specs.Expressions.{Checked, Worth, typing, valued, worth, effect}
use Rattle.typing_spec.specs.Declarations.{no_effects, declaration_typed}
use Rattle.typing_spec.specs.Statements as rules
use Rattle.typing_spec.specs.Statements.{Around, Label, Done, AllDone, Start, Control, statement, pieces, followed_by, labelled, label_statement}
use Rattle.typing_spec.specs.Nodes.{type_of_value}
use Rattle.typing_spec.specs.Uses.{uses, uses_in_option, uses_in_statement, uses_in_statements}
use Rattle.typing_spec.specs.WellTyped.{some_number, value_is_typed, option_is_typed, test_is_typed, statement_is_typed, statements_are_typed}
use Rattle.lower_wf.proofs.Verdicts.{then_some, both_some, both_any, part, delayed}
use Rattle.lower_wf.proofs.Ground as ground
use Rattle.lower_wf.proofs.Ground.{Setting, Present, first, second, Names, AllFit, TextsEnd, Typed, IsGood, IsWorth}
use Rattle.lower_wf.proofs.Effects.{good_worth, good_effect}
use Rattle.lower_wf.proofs.Typings.{typing_good}
use Rattle.lower_wf.proofs.Scopes.{Grown, stays, onwards, literals_grow, block_grows, longer, Ends, earlier}
use Rattle.lower_wf.proofs.Items.{StatementTyped, AllTyped, InitialsGood, all_initials, EffectsGood, DeclaredGood}
use Rattle.lower_wf.proofs.Blocks.{Deep, declaration_good}

deeper : (n : ℕ) → Deep (n + 1)
deeper n e = omega (arith, e)

at_least : (a b : ℕ) → a ≤ b → nat_le a b ≡ true
at_least a b h = grind (arith, nat_tests, h)

refused : {A B C : Type 0} (P : C → Type 0) (v : Verdict A) (c : Code) (at : Pos) (go : A → B → Verdict C) → IfFine P (both v (breaks c at) go)
refused P (fine a) c at go = tt
refused P v c at go = tt

module _ (W : Setting) where
  abbrev V : Value → Bool
  V e = value_is_typed W.program W.function e

  abbrev N1 : Value → Bool
  N1 e = V e && some_number (type_of_value e)

  abbrev S : ℕ → ℕ → Statement → Bool
  S lo hi x = statement_is_typed W.program W.function lo hi x

  abbrev SS : ℕ → ℕ → Statements → Bool
  SS lo hi xs = statements_are_typed W.program W.function lo hi xs

  abbrev pub ListTyped : ℕ → ℕ → Statements → Type 0
  ListTyped lo hi xs = Present W.program (uses_in_statements xs) → SS lo hi xs ≡ true

  abbrev pub DoneGood : Scope → Done → Type 0
  DoneGood s d =
      Grown s d.scope × (d.scope.bindings ≡ s.bindings) ×
      (Names W s → Ends W d.scope → ((lo hi : ℕ) → lo ≤ length s.objects → length d.scope.objects ≤ hi → StatementTyped W lo hi d.statement) × InitialsGood W d.initial)

  abbrev pub AllGood : Scope → AllDone → Type 0
  AllGood s d =
      Grown s d.scope × (Names W s → Ends W d.scope → ((lo hi : ℕ) → lo ≤ length s.objects → length d.scope.objects ≤ hi → ListTyped lo hi d.statements) × InitialsGood W d.initial)

  carried : (s u : Scope) → Grown s u → u.bindings ≡ s.bindings → Names W s → Names W u
  carried s u g e N = (g.texts ∙ N.0, g.definitions ∙ N.1, subst (AllFit W) (sym e) N.2)

  -- ---- expressions, once the entities of the program are known

  abbrev Known : Scope → Tree → Type 0
  Known s e = Names W s × TextsEnd W (s.literals ++ strings e)

  typing_later : (s : Scope) (e : Tree) → IfFine (λ x. Known s e → IsGood W x) (typing s e)
  typing_later s e = delayed {H = Known s e} (λ h x. IsGood W x) (typing s e) (λ h. typing_good W s e h.0 h.1)

  effect_later : (H : Type 0) (x : Checked) → (H → IsGood W x) → IfFine (λ v. H → Typed W v) (effect x)
  effect_later H x g = delayed {H = H} (λ h v. Typed W v) (effect x) (λ h. good_effect W x (g h))

  abbrev WorthLater : Scope → Tree → Worth → Type 0
  WorthLater s e w = Known s e → IsWorth W w

  worth_later : (c : Code) (at : Pos) (s : Scope) (e : Tree) → IfFine (WorthLater s e) (valued c at (typing s e))
  worth_later c at s e =
      then_some (λ x. Known s e → IsGood W x) (WorthLater s e) (typing s e) (worth c at) (typing_later s e) (λ x g. delayed {H = Known s e} (λ h w. IsWorth W w) (worth c at x) (λ h. good_worth W c at x (g h)))

  -- ---- lists of statements

  pub followed_typed : (lo hi : ℕ) (xs : List Statement) (more : Statements) → AllTyped W lo hi xs → ListTyped lo hi more → ListTyped lo hi (followed_by xs more)
  followed_typed lo hi [] more h k = k
  followed_typed lo hi (x ∷ xs) more h k = λ u.
      and_from (S lo hi x) (SS lo hi (followed_by xs more)) (h.0 (first W.program (uses_in_statement x) (uses_in_statements (followed_by xs more)) u))
      (followed_typed lo hi xs more h.1 k (second W.program (uses_in_statement x) (uses_in_statements (followed_by xs more)) u))

  one_label : (lo hi : ℕ) (o : Option ℤ) (more : Statements) → ListTyped lo hi more → ListTyped lo hi (typed.and_statement (label_statement o) more)
  one_label lo hi None more k = k
  one_label lo hi (Some v) more k = k

  labelled_typed : (lo hi : ℕ) (ls : List Label) (more : Statements) → ListTyped lo hi more → ListTyped lo hi (labelled ls more)
  labelled_typed lo hi [] more k = k
  labelled_typed lo hi (l ∷ ls) more k = one_label lo hi l.value (labelled ls more) (labelled_typed lo hi ls more k)

  -- ---- blocks

  whole : (a n : ℕ) → a ≤ n → a + (n - a) ≡ n
  whole a n h = omega (arith, h)

  pub inner_typed : (lo hi a n : ℕ) (xs : Statements) → lo ≤ a → a ≤ n → n ≤ hi → ListTyped a (a + (n - a)) xs → Present W.program (uses_in_statements xs) → (nat_le lo a && (nat_le (a + (n - a)) hi && SS a (a + (n - a)) xs)) ≡ true
  inner_typed lo hi a n xs l k h g u =
      and_from (nat_le lo a) (nat_le (a + (n - a)) hi && SS a (a + (n - a)) xs) (at_least lo a l)
      (and_from (nat_le (a + (n - a)) hi) (SS a (a + (n - a)) xs) (at_least (a + (n - a)) hi (let e = whole a n k in omega (arith, h, e))) (g u))

  block_good : (s : Scope) (all : AllDone) → AllGood (inside s) all → IfFine (DoneGood s) (rules.block_of s all)
  block_good s all g = (
    block_grows s all.scope g.0,
    refl,
    λ N E. let r = g.1 N E in (
      λ lo hi l h. inner_typed lo hi (length s.objects) (length all.scope.objects) all.statements l (longer (inside s) all.scope g.0) h
          (r.0 (length s.objects) (length s.objects + (length all.scope.objects - length s.objects)) (omega arith) (let e = whole (length s.objects) (length all.scope.objects) (longer (inside s) all.scope g.0) in omega (arith, e))),
      r.1,
    ),
  )

  switch_good : (s : Scope) (e : Tree) (t : IntType) (c : Worth) (all : AllDone) → WorthLater s e c → AllGood (inside (past s e)) all → IfFine (DoneGood s) (rules.switch_of s t c all)
  switch_good s e t c all k g =
      let q = past s e in
      let o = block_grows q all.scope g.0 in
      let d : Done = record { labels = []; statement = typed.switch t c.e (length s.objects) (length all.scope.objects - length s.objects) all.statements; scope = outside s all.scope; initial = all.initial } in
      part (DoneGood s) (rules.no_label_twice [] all.labels) (fine d) (
        onwards s q (outside s all.scope) (literals_grow s (strings e)) o,
        refl,
        λ N E. let r = g.1 N E in let text = (earlier W q (outside s all.scope) o E).0 in (
          λ lo hi l h u. and_from (N1 c.e) _ (ground.number W c.type c.e (k (N, text)) (first W.program (uses c.e) (uses_in_statements all.statements) u))
              (inner_typed lo hi (length s.objects) (length all.scope.objects) all.statements l (longer (inside q) all.scope g.0) h
              (r.0 (length s.objects) (length s.objects + (length all.scope.objects - length s.objects)) (omega arith) (let z = whole (length s.objects) (length all.scope.objects) (longer (inside q) all.scope g.0) in omega (arith, z)))
              (second W.program (uses c.e) (uses_in_statements all.statements) u)),
          r.1,
        ),
      )

  -- ---- one statement after an expression

  from_past : (s : Scope) (e : Tree) (d : Done) → DoneGood (past s e) d → DoneGood s d
  from_past s e d g = (onwards s (past s e) d.scope (literals_grow s (strings e)) g.0, g.1, g.2)

  evaluated : (s : Scope) (e : Tree) (v : Value) → (Known s e → Typed W v) → DoneGood s (record { labels = []; statement = typed.evaluate v; scope = past s e; initial = [] })
  evaluated s e v k = (literals_grow s (strings e), refl, λ N E. (λ lo hi l h u. k (N, E.0) u, tt))

  if_good : (s : Scope) (e : Tree) (c : Worth) (x : Done) → WorthLater s e c → DoneGood (past s e) x → DoneGood s (record { labels = []; statement = typed.branch c.e x.statement; scope = x.scope; initial = x.initial })
  if_good s e c x k g = (
    onwards s (past s e) x.scope (literals_grow s (strings e)) g.0,
    g.1,
    λ N E. let r = g.2 N E in let text = (earlier W (past s e) x.scope g.0 E).0 in (
      λ lo hi l h u. and_from (N1 c.e) (S lo hi x.statement) (ground.number W c.type c.e (k (N, text)) (first W.program (uses c.e) (uses_in_statement x.statement) u)) (r.0 lo hi l h (second W.program (uses c.e) (uses_in_statement x.statement) u)),
      r.1,
    ),
  )

  while_good : (s : Scope) (e : Tree) (c : Worth) (x : Done) → WorthLater s e c → DoneGood (past s e) x → DoneGood s (record { labels = []; statement = typed.while c.e x.statement; scope = x.scope; initial = x.initial })
  while_good s e c x k g = if_good s e c x k g

  if_else_good : (s : Scope) (e : Tree) (c : Worth) (x y : Done) → WorthLater s e c → DoneGood (past s e) x → DoneGood x.scope y → DoneGood s (record { labels = []; statement = typed.branches c.e x.statement y.statement; scope = y.scope; initial = x.initial ++ y.initial })
  if_else_good s e c x y k g i = (
    onwards s x.scope y.scope (onwards s (past s e) x.scope (literals_grow s (strings e)) g.0) i.0,
    i.1 ∙ g.1,
    λ N E.
        let F = earlier W x.scope y.scope i.0 E in
        let r = g.2 N F in
        let z = i.2 (carried (past s e) x.scope g.0 g.1 N) E in
        let text = (earlier W (past s e) x.scope g.0 F).0 in
        let a = uses_in_statement x.statement in
        let b = uses_in_statement y.statement in (
          λ lo hi l h u.
              let v = first W.program (uses c.e ++ a) b u in
              and_from (N1 c.e) (S lo hi x.statement && S lo hi y.statement) (ground.number W c.type c.e (k (N, text)) (first W.program (uses c.e) a v))
              (and_from (S lo hi x.statement) (S lo hi y.statement) (r.0 lo hi l (let q = longer x.scope y.scope i.0 in omega (arith, h, q)) (second W.program (uses c.e) a v))
              (z.0 lo hi (let q = longer (past s e) x.scope g.0 in omega (arith, l, q)) h (second W.program (uses c.e ++ a) b u))),
          all_initials W x.initial y.initial r.1 z.1,
        ),
  )

  do_good : (s : Scope) (e : Tree) (c : Worth) (x : Done) → DoneGood s x → WorthLater x.scope e c → DoneGood s (record { labels = []; statement = typed.do_while x.statement c.e; scope = past x.scope e; initial = x.initial })
  do_good s e c x g k = (
    onwards s x.scope (past x.scope e) g.0 (literals_grow x.scope (strings e)),
    g.1,
    λ N E. let r = g.2 N (earlier W x.scope (past x.scope e) (literals_grow x.scope (strings e)) E) in (
      λ lo hi l h u. and_from (S lo hi x.statement) (N1 c.e) (r.0 lo hi l h (first W.program (uses_in_statement x.statement) (uses c.e) u))
          (ground.number W c.type c.e (k (carried s x.scope g.0 g.1 N, E.0)) (second W.program (uses_in_statement x.statement) (uses c.e) u)),
      r.1,
    ),
  )

  -- ---- for

  abbrev OptionTyped : Option Value → Type 0
  OptionTyped o = Present W.program (uses_in_option o) → option_is_typed W.program W.function o ≡ true

  abbrev TestTyped : Option Value → Type 0
  TestTyped o = Present W.program (uses_in_option o) → test_is_typed W.program W.function o ≡ true

  abbrev KnownOption : Scope → Option Tree → Type 0
  KnownOption s o = Names W s × TextsEnd W (rules.past_option s o).literals

  option_grows : (s : Scope) (o : Option Tree) → Grown s (rules.past_option s o)
  option_grows s None = stays s
  option_grows s (Some e) = literals_grow s (strings e)

  option_names : (s : Scope) (o : Option Tree) → Names W s → Names W (rules.past_option s o)
  option_names s None N = N
  option_names s (Some e) N = N

  effect_option : (s : Scope) (o : Option Tree) → IfFine (λ v. KnownOption s o → OptionTyped v) (rules.effect_in s o)
  effect_option s None = λ h u. refl
  effect_option s (Some e) =
      then_some (λ x. Known s e → IsGood W x) _ (typing s e) _ (typing_later s e) (λ x g. then_some (λ v. Known s e → Typed W v) _ (effect x) (λ v. fine (Some v)) (effect_later (Known s e) x g) (λ v k. k))

  test_option : (s : Scope) (at : Pos) (o : Option Tree) → IfFine (λ v. KnownOption s o → TestTyped v) (rules.test_in s at o)
  test_option s at None = λ h u. refl
  test_option s at (Some e) = then_some (WorthLater s e) _ (valued code.VoidControl at (typing s e)) (λ w. fine (Some w.e)) (worth_later code.VoidControl at s e) (λ w k h. ground.number W w.type w.e (k h))

  abbrev StartGood : Scope → Start → Type 0
  StartGood s d =
      Grown s d.scope × (Names W s → Ends W d.scope → Names W d.scope × EffectsGood W (length s.objects) (length d.scope.objects) d.effects × InitialsGood W d.effects.initial × OptionTyped d.first)

  started_good : (s : Scope) → Deep s.level → (start : StartTree) → IfFine (StartGood s) (rules.started s start)
  started_good s d (expression_start e) =
      then_some (λ v. KnownOption s e → OptionTyped v) (StartGood s) (rules.effect_in s e) (λ v. fine (record { effects = no_effects; first = v; scope = rules.past_option s e })) (effect_option s e) (λ v k.
      (option_grows s e, λ N E. (option_names s e N, λ lo hi l h. tt, tt, k (N, E.0))))
  started_good s d (declaration_start t) =
      part (StartGood s) (rules.fit_for_loop t) (then_check (declaration_typed s t) (λ x. fine (record { effects = x.effects; first = None; scope = x.scope })))
      (then_some (DeclaredGood W s) (StartGood s) (declaration_typed s t) (λ x. fine (record { effects = x.effects; first = None; scope = x.scope })) (declaration_good W s d t) (λ x g.
      (g.0, λ N E. let r = g.1 N E in (r.0, r.1, r.2, λ u. refl))))

  abbrev ControlGood : Scope → Option Tree → Option Tree → Control → Type 0
  ControlGood s test step c = (KnownOption s test → TestTyped c.test) × (KnownOption (rules.past_option s test) step → OptionTyped c.step)

  for_good : (s : Scope) (test step : Option Tree) (d : Start) (c : Control) (x : Done) → StartGood (inside s) d → ControlGood d.scope test step c → DoneGood (inside (rules.past_option (rules.past_option d.scope test) step)) x →
      IfFine (DoneGood s) (rules.loop_of s d c x)
  for_good s test step d c x i k g =
      let s1 = rules.past_option d.scope test in
      let s2 = rules.past_option s1 step in
      let g0 = block_grows s2 x.scope g.0 in
      let g1 = onwards s1 s2 (outside s2 x.scope) (option_grows s1 step) g0 in
      let g2 = onwards d.scope s1 (outside s2 x.scope) (option_grows d.scope test) g1 in
      let g3 = onwards (inside s) d.scope (outside s2 x.scope) i.0 g2 in (
        block_grows s (outside s2 x.scope) g3,
        refl,
        λ N E.
            let Ed = earlier W d.scope (outside s2 x.scope) g2 E in
            let r = i.1 N Ed in
            let n1 = option_names d.scope test r.0 in
            let E1 = earlier W s1 (outside s2 x.scope) g1 E in
            let E2 = earlier W s2 (outside s2 x.scope) g0 E in
            let z = g.2 (option_names s1 step n1) E in
            let all = followed_by d.effects.statements typed.no_statements in
            let a0 = uses_in_statements all in
            let a1 = uses_in_option d.first in
            let a2 = uses_in_option c.test in
            let a3 = uses_in_option c.step in
            let a4 = uses_in_statement x.statement in
            let long = longer d.scope (outside s2 x.scope) g2 in
            let short = longer (inside s) d.scope i.0 in
            let mid = longer d.scope s2 (onwards d.scope s1 s2 (option_grows d.scope test) (option_grows s1 step)) in (
              λ lo hi l h u.
                  let u3 = first W.program (a0 ++ a1 ++ a2 ++ a3) a4 u in
                  let u2 = first W.program (a0 ++ a1 ++ a2) a3 u3 in
                  let u1 = first W.program (a0 ++ a1) a2 u2 in
                  and_from (SS lo hi all) (option_is_typed W.program W.function d.first && (test_is_typed W.program W.function c.test && (option_is_typed W.program W.function c.step && S lo hi x.statement)))
                  (followed_typed lo hi d.effects.statements typed.no_statements (r.1 lo hi l (omega (arith, h, long))) (λ q. refl) (first W.program a0 a1 u1))
                  (and_from (option_is_typed W.program W.function d.first) (test_is_typed W.program W.function c.test && (option_is_typed W.program W.function c.step && S lo hi x.statement)) (r.3 (second W.program a0 a1 u1))
                  (and_from (test_is_typed W.program W.function c.test) (option_is_typed W.program W.function c.step && S lo hi x.statement) (k.0 (r.0, E1.0) (second W.program (a0 ++ a1) a2 u2))
                  (and_from (option_is_typed W.program W.function c.step) (S lo hi x.statement) (k.1 (n1, E2.0) (second W.program (a0 ++ a1 ++ a2) a3 u3))
                  (z.0 lo hi (omega (arith, l, short, mid)) h (second W.program (a0 ++ a1 ++ a2 ++ a3) a4 u))))),
              all_initials W d.effects.initial x.initial r.2 z.1,
            ),
      )

  -- ---- jumps

  misplaced_good : (s : Scope) (A : Around) (at : Pos) (b : Bool) → b ≡ A.in_switch → IfFine (DoneGood s) (if b then breaks code.LeftOutLabel at else breaks code.LabelOutsideSwitch at)
  misplaced_good s A at true e = tt
  misplaced_good s A at false e = tt

  jump_good : (b : Bool) (at : Pos) (s : Scope) (x : Statement) → ((lo hi : ℕ) → StatementTyped W lo hi x) → IfFine (DoneGood s) (rules.jump b at s x)
  jump_good true at s x h = (stays s, refl, λ N E. (λ lo hi l k. h lo hi, tt))
  jump_good false at s x h = tt

  same_result_self : (t : Option IntType) → same_result t t ≡ true
  same_result_self None = refl
  same_result_self (Some t) = ground.same_self t

  returned_good : (r : Option IntType) → r ≡ W.function.type.result → (at : Pos) (s : Scope) (e : Option Tree) → IfFine (DoneGood s) (rules.returned r at s e)
  returned_good None R at s None = (stays s, refl, λ N E. (λ lo hi l h u. subst (λ t. same_result t None ≡ true) R refl, tt))
  returned_good (Some t) R at s None = tt
  returned_good None R at s (Some e) = refused (DoneGood s) (typing s e) code.ReturnMismatch at (λ x d. fine d)
  returned_good (Some t) R at s (Some e) =
      then_some (WorthLater s e) (DoneGood s) (valued code.VoidAssigned at (typing s e)) (λ w. rules.done (past s e) (typed.return_value t w.e)) (worth_later code.VoidAssigned at s e) (λ w k. (
        literals_grow s (strings e),
        refl,
        λ N E. (
          λ lo hi l h u.
              and_from (same_result W.function.type.result (Some t)) (N1 w.e) (subst (λ q. same_result q (Some t) ≡ true) R (same_result_self (Some t))) (ground.number W w.type w.e (k (N, E.0)) u),
          tt,
        ),
      ))

  -- ---- statements

  none_switched : (s : Scope) (at : Pos) (e : Tree) → IfFine (DoneGood s) (both (valued code.VoidControl at (typing s e)) (breaks code.LeftOutLabel at) (λ c d. fine d))
  none_switched s at e = refused (DoneGood s) (valued code.VoidControl at (typing s e)) code.LeftOutLabel at (λ c d. fine d)

  mutual
    pub statement_good : (A : Around) → A.result ≡ W.function.type.result → (d : Option IntType) (s : Scope) → Deep s.level → (t : StmtTree) → IfFine (DoneGood s) (statement A d s t)
    statement_good A R d s D stmt_hole = tt
    statement_good A R (Some t) s D (case_stmt at e a) =
        both_any (DoneGood (past s e)) (DoneGood s) (rules.case_value s t e) (statement A (Some t) (past s e) a) (rules.case_label at) (statement_good A R (Some t) (past s e) D a) (λ v x g. from_past s e x g)
    statement_good A R None s D (case_stmt at e a) = misplaced_good s A at A.in_switch refl
    statement_good A R (Some t) s D (default_stmt at a) =
        then_some (DoneGood s) (DoneGood s) (statement A (Some t) s a) (rules.with_label (record { at = at; value = None })) (statement_good A R (Some t) s D a) (λ x g. g)
    statement_good A R None s D (default_stmt at a) = misplaced_good s A at A.in_switch refl
    statement_good A R d s D (block_stmt at ps) = then_some (AllGood (inside s)) (DoneGood s) (pieces A None (inside s) ps) (rules.block_of s) (pieces_good A R None (inside s) (deeper s.level) ps) (λ all g. block_good s all g)
    statement_good A R d s D (empty_stmt at) = (stays s, refl, λ N E. (λ lo hi l h u. refl, tt))
    statement_good A R d s D (expression_stmt at e) =
        then_some (λ x. Known s e → IsGood W x) (DoneGood s) (typing s e) _ (typing_later s e) (λ x g.
        then_some (λ v. Known s e → Typed W v) (DoneGood s) (effect x) _ (effect_later (Known s e) x g) (λ v k. evaluated s e v k))
    statement_good A R d s D (if_stmt at e a) =
        both_some (WorthLater s e) (DoneGood (past s e)) (DoneGood s) (valued code.VoidControl at (typing s e)) (statement A None (past s e) a) _ (worth_later code.VoidControl at s e) (statement_good A R None (past s e) D a) (λ c x k g. if_good s e c x k g)
    statement_good A R d s D (if_else_stmt at e a b) =
        both_some (WorthLater s e) (DoneGood (past s e)) (DoneGood s) (valued code.VoidControl at (typing s e)) (statement A None (past s e) a) _ (worth_later code.VoidControl at s e) (statement_good A R None (past s e) D a) (λ c x k g.
        then_some (DoneGood x.scope) (DoneGood s) (statement A None x.scope b) _ (statement_good A R None x.scope (λ z. D (sym g.0.level ∙ z)) b) (λ y i. if_else_good s e c x y k g i))
    statement_good A R d s D (switch_stmt at e (block_stmt p ps)) =
        then_some (WorthLater s e) (DoneGood s) (valued code.VoidControl at (typing s e)) _ (worth_later code.VoidControl at s e) (λ c k.
        then_some (AllGood (inside (past s e))) (DoneGood s) (pieces (rules.in_a_switch A) (Some (promoted c.type)) (inside (past s e)) ps) (rules.switch_of s (promoted c.type) c) (pieces_good (rules.in_a_switch A) R (Some (promoted c.type)) (inside (past s e)) (deeper s.level) ps)
        (λ all g. switch_good s e (promoted c.type) c all k g))
    statement_good A R d s D (switch_stmt at e stmt_hole) = none_switched s at e
    statement_good A R d s D (switch_stmt at e (empty_stmt p)) = none_switched s at e
    statement_good A R d s D (switch_stmt at e (expression_stmt p a)) = none_switched s at e
    statement_good A R d s D (switch_stmt at e (if_stmt p a b)) = none_switched s at e
    statement_good A R d s D (switch_stmt at e (if_else_stmt p a b c)) = none_switched s at e
    statement_good A R d s D (switch_stmt at e (switch_stmt p a b)) = none_switched s at e
    statement_good A R d s D (switch_stmt at e (case_stmt p a b)) = none_switched s at e
    statement_good A R d s D (switch_stmt at e (default_stmt p a)) = none_switched s at e
    statement_good A R d s D (switch_stmt at e (while_stmt p a b)) = none_switched s at e
    statement_good A R d s D (switch_stmt at e (do_while_stmt p a b)) = none_switched s at e
    statement_good A R d s D (switch_stmt at e (for_stmt p a b c f)) = none_switched s at e
    statement_good A R d s D (switch_stmt at e (break_stmt p)) = none_switched s at e
    statement_good A R d s D (switch_stmt at e (continue_stmt p)) = none_switched s at e
    statement_good A R d s D (switch_stmt at e (return_stmt p a)) = none_switched s at e
    statement_good A R d s D (while_stmt at e a) =
        both_some (WorthLater s e) (DoneGood (past s e)) (DoneGood s) (valued code.VoidControl at (typing s e)) (statement (rules.in_a_loop A) None (past s e) a) _ (worth_later code.VoidControl at s e)
        (statement_good (rules.in_a_loop A) R None (past s e) D a) (λ c x k g. while_good s e c x k g)
    statement_good A R d s D (do_while_stmt at a e) =
        then_some (DoneGood s) (DoneGood s) (statement (rules.in_a_loop A) None s a) _ (statement_good (rules.in_a_loop A) R None s D a) (λ x g.
        then_some (WorthLater x.scope e) (DoneGood s) (valued code.VoidControl at (typing x.scope e)) _ (worth_later code.VoidControl at x.scope e) (λ c k. do_good s e c x g k))
    statement_good A R d s D (for_stmt at start test step a) =
        then_some (StartGood (inside s)) (DoneGood s) (rules.started (inside s) start) _ (started_good (inside s) (deeper s.level) start) (λ x g.
        let s1 = rules.past_option x.scope test in
        let s2 = rules.past_option s1 step in
        both_some (ControlGood x.scope test step) (DoneGood (inside s2)) (DoneGood s) (both (rules.test_in x.scope at test) (rules.effect_in s1 step) rules.control) (statement (rules.in_a_loop A) None (inside s2) a) (rules.loop_of s x)
        (both_some (λ v. KnownOption x.scope test → TestTyped v) (λ v. KnownOption s1 step → OptionTyped v) (ControlGood x.scope test step) (rules.test_in x.scope at test) (rules.effect_in s1 step) rules.control (test_option x.scope at test) (effect_option s1 step) (λ v w i j. (i, j)))
        (statement_good (rules.in_a_loop A) R None (inside s2) (deeper s2.level) a) (λ c y k z. for_good s test step x c y g k z))
    statement_good A R d s D (break_stmt at) = jump_good (A.in_loop || A.in_switch) at s typed.break (λ lo hi u. refl)
    statement_good A R d s D (continue_stmt at) = jump_good A.in_loop at s typed.continue (λ lo hi u. refl)
    statement_good A R d s D (return_stmt at e) = returned_good A.result R at s e

    pub pieces_good : (A : Around) → A.result ≡ W.function.type.result → (d : Option IntType) (s : Scope) → Deep s.level → (ps : Pieces) → IfFine (AllGood s) (pieces A d s ps)
    pieces_good A R d s D no_pieces = (stays s, λ N E. (λ lo hi l h u. refl, tt))
    pieces_good A R d s D (and_piece (declaration_item x) ps) =
        then_some (DeclaredGood W s) (AllGood s) (declaration_typed s x) _ (declaration_good W s D x) (λ y g.
        then_some (AllGood y.scope) (AllGood s) (pieces A d y.scope ps) (rules.and_declaration y.effects) (pieces_good A R d y.scope (λ z. D (sym g.0.level ∙ z)) ps) (λ more k. (
          onwards s y.scope more.scope g.0 k.0,
          λ N E.
              let r = g.1 N (earlier W y.scope more.scope k.0 E) in
              let q = k.1 r.0 E in
              let here = longer s y.scope g.0 in
              let there = longer y.scope more.scope k.0 in (
                λ lo hi l h. followed_typed lo hi y.effects.statements more.statements (r.1 lo hi l (omega (arith, h, there))) (q.0 lo hi (omega (arith, l, here)) h),
                all_initials W y.effects.initial more.initial r.2 q.1,
              ),
        )))
    pieces_good A R d s D (and_piece (statement_item x) ps) =
        then_some (DoneGood s) (AllGood s) (statement A d s x) _ (statement_good A R d s D x) (λ y g.
        then_some (AllGood y.scope) (AllGood s) (pieces A d y.scope ps) (rules.and_statements y) (pieces_good A R d y.scope (λ z. D (sym g.0.level ∙ z)) ps) (λ more k. (
          onwards s y.scope more.scope g.0 k.0,
          λ N E.
              let r = g.2 N (earlier W y.scope more.scope k.0 E) in
              let q = k.1 (carried s y.scope g.0 g.1 N) E in
              let here = longer s y.scope g.0 in
              let there = longer y.scope more.scope k.0 in (
                λ lo hi l h. labelled_typed lo hi y.labels (typed.and_statement y.statement more.statements) (λ u.
                    and_from (S lo hi y.statement) (SS lo hi more.statements) (r.0 lo hi l (omega (arith, h, there)) (first W.program (uses_in_statement y.statement) (uses_in_statements more.statements) u))
                    (q.0 lo hi (omega (arith, l, here)) h (second W.program (uses_in_statement y.statement) (uses_in_statements more.statements) u))),
                all_initials W y.initial more.initial r.1 q.1,
              ),
        )))
