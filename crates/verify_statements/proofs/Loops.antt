-- Loops, from the results for each part.
use Rattle.std.proofs.Common.{◌≡◌, ℕ, zero, suc, ℤ, subst}
use Rattle.std.specs.Prelude.{Option, Some, None}
use Rattle.typing_spec.specs.Program as typed
use Rattle.typing_spec.specs.Program.{Value, Statement, Statements}
use Rattle.ctypes.specs.Types.{truth}
use Rattle.csem.specs.Machine.{State, Run, Goes, then_do}
use Rattle.csem.specs.Expressions.{evaluate, evaluate_or}
use Rattle.csem.specs.Statements.{Flow, Normal, Broken, Continued, Returned, after_body, turns, execute, execute_all}
use Rattle.csem.specs.Meaning.{calling}
use Rattle.verify_logic.specs.States.{Known, Frame, ValueIs, Reaches, Ends, Implies}
use Rattle.verify_logic.specs.Judgements.{Tests, either_way}
use Rattle.verify_logic.specs.Statements.{Ways, Leaves, Executes, ExecutesAll, WaysImply, TestsOr, EvaluatesOr}
use Rattle.verify_logic.proofs.Runs.{then_ends, tick_ends, weaker}
use Rattle.verify_logic.proofs.Objects.{implies_same, implies_then}
use Rattle.verify_logic.proofs.Rules.{by_truth}
use Rattle.verify_logic.proofs.StatementRules.{loop_ways, turns_rule, tests_some, evaluates_none}
use Rattle.verify_statements.specs.Loops.{Loops, Unrolls, Turns, Leads}

pub loops_rule : (fr : Frame) (test step : Option Value) (a : Statement) (o kept again on off : Option Known) (w : Ways) (behind out : Option Known) → Implies o kept → again ≡ kept → TestsOr fr test again on off → Executes fr a on w →
    Implies w.normal behind → Implies w.continued behind → EvaluatesOr fr step behind kept → Implies w.broken out → Implies off out → Loops fr test step a o (loop_ways out w)
loops_rule fr test step a o kept again on off w behind out f same ht ha n k hp b x = let P : Option Known → Type 0 = λ kept. TestsOr fr test kept on off in record {
  runs = λ d m s c. turns_rule fr kept on off w behind out test step a (subst P same ht) ha n k hp b x d m s (f.is fr s c);
}

pub whole_while : (fr : Frame) (e : Value) (a : Statement) (o kept again on off : Option Known) (w : Ways) (out : Option Known) → Implies o kept → again ≡ kept → Tests fr e again on off → Executes fr a on w →
    Implies w.normal kept → Implies w.continued kept → Implies w.broken out → Implies off out → Loops fr (Some e) None a o (loop_ways out w)
whole_while fr e a o kept again on off w out f same ht ha n k b x =
    loops_rule fr (Some e) None a o kept again on off w kept out f same (tests_some fr e again on off ht) ha n k (evaluates_none fr kept kept (implies_same kept)) b x

pub while_as : (fr : Frame) (e : Value) (a : Statement) (o : Option Known) (w : Ways) → Loops fr (Some e) None a o w → Executes fr (typed.while e a) o w
while_as fr e a o w h = record {
  runs = λ d s c. tick_ends fr.listed s (λ s. turns s.clock (evaluate fr.program (calling fr.program d) e) (execute fr.program (calling fr.program d) fr.objects a) (evaluate_or fr.program (calling fr.program d) None) s) (Leaves fr w)
      (λ m. h.runs d m (record s { clock = m }) c);
}

-- left by the first iteration
abbrev pub first_ways : Ways → Ways
first_ways w = record { normal = w.broken; broken = None; continued = None; returned = w.returned; value = w.value }

pub do_as : (fr : Frame) (e : Value) (a : Statement) (o : Option Known) (w : Ways) (kept : Option Known) (w2 out : Ways) → Executes fr a o w → Implies w.normal kept → Implies w.continued kept → Loops fr (Some e) None a kept w2 →
    WaysImply (first_ways w) out → WaysImply w2 out → Executes fr (typed.do_while a e) o out
do_as fr e a o w kept w2 out h n k g f1 f2 = record {
  runs = λ d s c. tick_ends fr.listed s _ (Leaves fr out) (λ m.
      then_ends fr.listed (execute fr.program (calling fr.program d) fr.objects a (record s { clock = m })) _ (Leaves fr w) (Leaves fr out) (h.runs d (record s { clock = m }) c) (λ flow s2 q. next d flow s2 q));
}
  where
    leaves : (flow : Flow) (s : State) → Leaves fr w2 flow s → Leaves fr out flow s
    leaves Normal s q = f2.normal.is fr s q
    leaves Broken s q = f2.broken.is fr s q
    leaves Continued s q = f2.continued.is fr s q
    leaves (Returned v) s q = f2.returned fr v s q.0 q.1

    again : (d : ℕ) (s : State) → Reaches fr kept s → Ends fr.listed (turns s.clock (evaluate fr.program (calling fr.program d) e) (execute fr.program (calling fr.program d) fr.objects a) (evaluate_or fr.program (calling fr.program d) None) s) (Leaves fr out)
    again d s c = weaker fr.listed (turns s.clock (evaluate fr.program (calling fr.program d) e) (execute fr.program (calling fr.program d) fr.objects a) (evaluate_or fr.program (calling fr.program d) None) s) (Leaves fr w2) (Leaves fr out)
        (g.runs d s.clock s c) (λ flow s2 q. leaves flow s2 q)

    next : (d : ℕ) (flow : Flow) (s : State) → Leaves fr w flow s →
        Ends fr.listed (after_body flow s (λ s. turns s.clock (evaluate fr.program (calling fr.program d) e) (execute fr.program (calling fr.program d) fr.objects a) (evaluate_or fr.program (calling fr.program d) None) s)) (Leaves fr out)
    next d Normal s q = again d s (n.is fr s q)
    next d Continued s q = again d s (k.is fr s q)
    next d Broken s q = f1.normal.is fr s q
    next d (Returned v) s q = f1.returned fr v s q.0 q.1

pub for_as : (fr : Frame) (declared : Statements) (start test step : Option Value) (a : Statement) (o : Option Known) (before : Ways) (o2 : Option Known) (w : Ways) → ExecutesAll fr declared o before → Implies before.broken before.normal →
    Implies before.continued before.normal → Implies before.returned before.normal → EvaluatesOr fr start before.normal o2 → Loops fr test step a o2 w → Executes fr (typed.for declared start test step a) o w
for_as fr declared start test step a o before o2 w hd jb jc jr hs h = record {
  runs = λ d s c. tick_ends fr.listed s _ (Leaves fr w) (λ m.
      then_ends fr.listed (execute_all fr.program (calling fr.program d) fr.objects declared (record s { clock = m })) _ (Leaves fr before) (Leaves fr w) (hd.runs d (record s { clock = m }) c) (λ flow s2 q.
      then_ends fr.listed (evaluate_or fr.program (calling fr.program d) start s2) _ (λ v s3. Reaches fr o2 s3) (Leaves fr w) (hs.runs d s2 (falls flow s2 q)) (λ v s3 c3.
      h.runs d s3.clock s3 c3)));
}
  where
    falls : (flow : Flow) (s : State) → Leaves fr before flow s → Reaches fr before.normal s
    falls Normal s q = q
    falls Broken s q = jb.is fr s q
    falls Continued s q = jc.is fr s q
    falls (Returned v) s q = jr.is fr s q.1

-- ---- iterations that are analysed one by one

module _ (fr : Frame) (test step : Option Value) (a : Statement) (o on off : Option Known) (w : Ways) (behind next : Option Known) (all : Ways) (ht : TestsOr fr test o on off) (ha : Executes fr a on w) (normal : Implies w.normal behind)
    (continued : Implies w.continued behind) (hs : EvaluatesOr fr step behind next) (broken : Implies w.broken all.normal) (ends : Implies off all.normal)
    (returned : (v : Option ℤ) (s : State) → ValueIs w.value v → Reaches fr w.returned s → ValueIs all.value v × Reaches fr all.returned s) (more : Loops fr test step a next all) where
  abbrev turning : (d n : ℕ) → State → Run Flow
  turning d n s = turns n (evaluate_or fr.program (calling fr.program d) test) (execute fr.program (calling fr.program d) fr.objects a) (evaluate_or fr.program (calling fr.program d) step) s

  stepping : (d n : ℕ) (s : State) → Reaches fr behind s → Ends fr.listed (then_do (evaluate_or fr.program (calling fr.program d) step s) (λ v s. turning d n s)) (Leaves fr all)
  stepping d n s c = then_ends fr.listed (evaluate_or fr.program (calling fr.program d) step s) (λ v s. turning d n s) (λ v s2. Reaches fr next s2) (Leaves fr all) (hs.runs d s c) (λ v s2 c2. more.runs d n s2 c2)

  after_turn : (d n : ℕ) (flow : Flow) (s : State) → Leaves fr w flow s → Ends fr.listed (after_body flow s (λ s. then_do (evaluate_or fr.program (calling fr.program d) step s) (λ v s. turning d n s))) (Leaves fr all)
  after_turn d n Normal s q = stepping d n s (normal.is fr s q)
  after_turn d n Continued s q = stepping d n s (continued.is fr s q)
  after_turn d n Broken s q = broken.is fr s q
  after_turn d n (Returned v) s q = returned v s q.0 q.1

  one_turn : (d n : ℕ) (s : State) → Reaches fr o s → Ends fr.listed (turning d n s) (Leaves fr all)
  one_turn d zero s c = tt
  one_turn d (suc n) s c =
      then_ends fr.listed (evaluate_or fr.program (calling fr.program d) test s) _ (λ v s2. Reaches fr (either_way (truth v) on off) s2) (Leaves fr all) (ht.runs d s c) (λ v s2 m.
      by_truth (truth v) fr on off s2 (then_do (execute fr.program (calling fr.program d) fr.objects a s2) (λ flow s. after_body flow s (λ s. then_do (evaluate_or fr.program (calling fr.program d) step s) (λ v s. turning d n s)))) (Goes Normal s2)
      (Leaves fr all) m
      (λ c2. then_ends fr.listed (execute fr.program (calling fr.program d) fr.objects a s2) _ (Leaves fr w) (Leaves fr all) (ha.runs d s2 c2) (λ flow s3 q. after_turn d n flow s3 q))
      (λ c2. ends.is fr s2 c2))

loops_from : (fr : Frame) (test step : Option Value) (a : Statement) (o o2 : Option Known) (w : Ways) → Implies o o2 → Loops fr test step a o2 w → Loops fr test step a o w
loops_from fr test step a o o2 w f h = record { runs = λ d n s c. h.runs d n s (f.is fr s c) }

-- left by the end of one iteration
abbrev pub turn_ways : Option Known → Ways → Ways
turn_ways out w = record { normal = None; broken = out; continued = None; returned = w.returned; value = w.value }

abbrev pub next_ways : Option Known → Ways → Ways
next_ways next w = record { normal = next; broken = w.broken; continued = w.continued; returned = w.returned; value = w.value }

turn_leads : (fr : Frame) (test step : Option Value) (a : Statement) (w0 : Ways) (on off : Option Known) (w : Ways) (behind next out : Option Known) (r : Ways) → TestsOr fr test w0.normal on off → Executes fr a on w → Implies w.normal behind →
    Implies w.continued behind → EvaluatesOr fr step behind next → Implies w.broken out → Implies off out → WaysImply (next_ways next w0) r → WaysImply (turn_ways out w) r → Turns fr test step a w0 r
turn_leads fr test step a w0 on off w behind next out r ht ha n k hs b x f g = record {
  leads = λ all u.
      let ended : Implies out all.normal = implies_then out r.broken all.normal g.broken u.left in
      let more : Loops fr test step a next all = loops_from fr test step a next r.normal all f.normal u.loops in
      let back : (v : Option ℤ) (s : State) → ValueIs w.value v → Reaches fr w.returned s → ValueIs all.value v × Reaches fr all.returned s = (λ v s h q. let p = g.returned fr v s h q in u.returned fr v s p.0 p.1) in
      record {
        loops = record { runs = λ d m s c. one_turn fr test step a w0.normal on off w behind next all ht ha n k hs (implies_then w.broken out all.normal b ended) (implies_then off out all.normal x ended) back more d m s c };
        left = implies_then w0.broken r.broken all.normal f.broken u.left;
        returned = λ fr2 v s h q. let p = f.returned fr2 v s h q in u.returned fr2 v s p.0 p.1;
      };
}

pub for_turn : (fr : Frame) (test step : Option Value) (a : Statement) (w0 : Ways) (o on off : Option Known) (w : Ways) (behind next out : Option Known) (before turn r : Ways) → o ≡ w0.normal → TestsOr fr test o on off → Executes fr a on w →
    Implies w.normal behind → Implies w.continued behind → EvaluatesOr fr step behind next → Implies w.broken out → Implies off out → before ≡ next_ways next w0 → turn ≡ turn_ways out w → WaysImply before r → WaysImply turn r → Turns fr test step a w0 r
for_turn fr test step a w0 o on off w behind next out before turn r eo ht ha n k hs b x eb et f g =
    let O : Option Known → Type 0 = λ o. TestsOr fr test o on off in
    let P : Ways → Type 0 = λ v. WaysImply v r in
    turn_leads fr test step a w0 on off w behind next out r (subst O eo ht) ha n k hs b x (subst P eb f) (subst P et g)

pub while_turn : (fr : Frame) (e : Value) (a : Statement) (w0 : Ways) (o on off : Option Known) (w : Ways) (behind out : Option Known) (before turn r : Ways) → o ≡ w0.normal → Tests fr e o on off → Executes fr a on w → Implies w.normal behind →
    Implies w.continued behind → Implies w.broken out → Implies off out → before ≡ next_ways behind w0 → turn ≡ turn_ways out w → WaysImply before r → WaysImply turn r → Turns fr (Some e) None a w0 r
while_turn fr e a w0 o on off w behind out before turn r eo ht ha n k b x eb et f g =
    for_turn fr (Some e) None a w0 o on off w behind behind out before turn r eo (tests_some fr e o on off ht) ha n k (evaluates_none fr behind behind (implies_same behind)) b x eb et f g

pub no_turn : (fr : Frame) (test step : Option Value) (a : Statement) (w : Ways) → Turns fr test step a w w
no_turn fr test step a w = record { leads = λ out u. u }

pub leads_from : (fr : Frame) (test step : Option Value) (a : Statement) (o : Option Known) (first so_far : Ways) → first.normal ≡ o → ((out : Ways) → Unrolls fr test step a so_far out → Unrolls fr test step a first out) → Leads fr test step a o so_far
leads_from fr test step a o first so_far e f = record { leads = λ out u. let P : Option Known → Type 0 = λ o. Loops fr test step a o out in subst P e (f out u).loops }

pub unrolled_as : (fr : Frame) (test step : Option Value) (a : Statement) (o : Option Known) (so_far w2 out : Ways) → Leads fr test step a o so_far → Loops fr test step a so_far.normal w2 → WaysImply (first_ways so_far) out → WaysImply w2 out → Loops fr test step a o out
unrolled_as fr test step a o so_far w2 out h g f1 f2 = h.leads out (record {
  loops = record {
    runs = λ d n s c. weaker fr.listed (turns n (evaluate_or fr.program (calling fr.program d) test) (execute fr.program (calling fr.program d) fr.objects a) (evaluate_or fr.program (calling fr.program d) step) s) (Leaves fr w2) (Leaves fr out) (g.runs d n s c)
        (λ flow s2 q. leaves flow s2 q);
  };
  left = f1.normal;
  returned = λ fr2 v s q k. f1.returned fr2 v s q k;
})
  where
    leaves : (flow : Flow) (s : State) → Leaves fr w2 flow s → Leaves fr out flow s
    leaves Normal s q = f2.normal.is fr s q
    leaves Broken s q = f2.broken.is fr s q
    leaves Continued s q = f2.continued.is fr s q
    leaves (Returned v) s q = f2.returned fr v s q.0 q.1
