-- Rules for statements.
use Rattle.std.proofs.Common.{◌≡◌, ◌⊎◌, inl, inr, ◌<◌, ◌+◌, ◌-◌, ◌++◌, ℕ, zero, suc, ℤ, List, [], ◌∷◌, length, refl, sym, subst, arith}
use Rattle.std.proofs.lemmas.Bool.Decides.{nat_tests}
use Rattle.std.specs.Prelude.{Option, Some, None, true, false, nat_lt}
use Rattle.ctypes.specs.declared.types.IntType.{IntType}
use Rattle.ctypes.specs.Types.{truth, converted}
use Rattle.typing_spec.specs.Program as typed
use Rattle.typing_spec.specs.Program.{Value, Statement, Statements}
use Rattle.csem.specs.Machine.{State, Run, Goes, then_do, choose}
use Rattle.csem.specs.Expressions.{evaluate, evaluate_or}
use Rattle.csem.specs.Statements.{Flow, Normal, Broken, Continued, Returned, next_after, after_body, after_switch, turns, labels_at, labels_of, label_for, same_value, all_renewed, execute, execute_all, execute_from}
use Rattle.csem.specs.Meaning.{calling}
use Rattle.verify_logic.specs.declared.abstract_values.Interval.{Interval}
use Rattle.verify_logic.specs.declared.abstract_values.AbsValue.{AbsValue}
use Rattle.verify_logic.specs.States.{Known, Frame, In, Reaches, Ends, Implies}
use Rattle.verify_logic.specs.Judgements.{Evaluates, Tests, Converts, either_way}
use Rattle.verify_logic.specs.Statements.{Ways, Leaves, Executes, ExecutesAll, Continues, Follows, Enters, MayJump, has_default, Renews, WaysImply, only_normal, TestsOr, EvaluatesOr}
use Rattle.verify_logic.proofs.Runs.{then_ends, tick_ends, weaker, choose_ends, second}
use Rattle.verify_logic.proofs.Objects.{implies_same, none_implies, implies_then}
use Rattle.verify_logic.proofs.Rules.{value_then, test_then, by_truth}

leaves_more : (fr : Frame) (w w2 : Ways) (flow : Flow) (s : State) → WaysImply w w2 → Leaves fr w flow s → Leaves fr w2 flow s
leaves_more fr w w2 Normal s h k = h.normal.is fr s k
leaves_more fr w w2 Broken s h k = h.broken.is fr s k
leaves_more fr w w2 Continued s h k = h.continued.is fr s k
leaves_more fr w w2 (Returned v) s h k = h.returned fr v s k.0 k.1

pub executes_more : (fr : Frame) (a : Statement) (o : Option Known) (w w2 : Ways) → Executes fr a o w → WaysImply w w2 → Executes fr a o w2
executes_more fr a o w w2 h f = record { runs = λ d s c. weaker fr.listed (execute fr.program (calling fr.program d) fr.objects a s) (Leaves fr w) (Leaves fr w2) (h.runs d s c) (λ flow s2 k. leaves_more fr w w2 flow s2 f k) }

pub ways_then : (w w2 w3 : Ways) → WaysImply w w2 → WaysImply w2 w3 → WaysImply w w3
ways_then w w2 w3 f g = record {
  normal = implies_then w.normal w2.normal w3.normal f.normal g.normal;
  broken = implies_then w.broken w2.broken w3.broken f.broken g.broken;
  continued = implies_then w.continued w2.continued w3.continued f.continued g.continued;
  returned = λ fr v s h k. let q = f.returned fr v s h k in g.returned fr v s q.0 q.1;
}

pub ways_same : (w : Ways) → WaysImply w w
ways_same w = record { normal = implies_same w.normal; broken = implies_same w.broken; continued = implies_same w.continued; returned = λ fr v s h k. (h, k) }

-- with another normal way
abbrev pub with_normal : Option Known → Ways → Ways
with_normal o w = record w { normal = o }

pub empty_rule : (fr : Frame) (o : Option Known) (k : AbsValue) → Executes fr typed.empty o (only_normal k o)
empty_rule fr o k = record { runs = λ d s c. tick_ends fr.listed s (λ s. Goes Normal s) (Leaves fr (only_normal k o)) (λ n. c) }

pub case_rule : (fr : Frame) (v : ℤ) (o : Option Known) (k : AbsValue) → Executes fr (typed.case v) o (only_normal k o)
case_rule fr v o k = record { runs = λ d s c. tick_ends fr.listed s (λ s. Goes Normal s) (Leaves fr (only_normal k o)) (λ n. c) }

pub default_rule : (fr : Frame) (o : Option Known) (k : AbsValue) → Executes fr typed.default o (only_normal k o)
default_rule fr o k = record { runs = λ d s c. tick_ends fr.listed s (λ s. Goes Normal s) (Leaves fr (only_normal k o)) (λ n. c) }

pub evaluate_rule : (fr : Frame) (e : Value) (o : Option Known) (i : Interval) (o2 : Option Known) (k : AbsValue) → Evaluates fr e o i o2 → Executes fr (typed.evaluate e) o (only_normal k o2)
evaluate_rule fr e o i o2 k h = record {
  runs = λ d s c. tick_ends fr.listed s _ (Leaves fr (only_normal k o2)) (λ n.
      value_then fr d e o i o2 (record s { clock = n }) (λ v s. Goes Normal s) (Leaves fr (only_normal k o2)) h c (λ v s2 m c2. c2));
}

pub block_rule : (fr : Frame) (first count : ℕ) (all : Statements) (o o2 : Option Known) (w : Ways) → Renews fr first count o o2 → ExecutesAll fr all o2 w → Executes fr (typed.block first count all) o w
block_rule fr first count all o o2 w r h = record {
  runs = λ d s c. tick_ends fr.listed s _ (Leaves fr w) (λ n. h.runs d (all_renewed fr.objects first count (record s { clock = n })) (r.is (record s { clock = n }) c));
}

pub branch_rule : (fr : Frame) (e : Value) (a : Statement) (o on off : Option Known) (w : Ways) (out : Option Known) → Tests fr e o on off →
    Executes fr a on w → Implies w.normal out → Implies off out → Executes fr (typed.branch e a) o (with_normal out w)
branch_rule fr e a o on off w out he ha f g = let w2 = with_normal out w in record {
  runs = λ d s c. tick_ends fr.listed s _ (Leaves fr w2) (λ n.
      test_then fr d e o on off (record s { clock = n }) (λ v s. execute fr.program (calling fr.program d) fr.objects a s) (λ v s. Goes Normal s) (Leaves fr w2) he c
      (λ v s2 c2. weaker fr.listed (execute fr.program (calling fr.program d) fr.objects a s2) (Leaves fr w) (Leaves fr w2) (ha.runs d s2 c2) (λ flow s3 k. go flow s3 k))
      (λ v s2 c2. g.is fr s2 c2));
}
  where
    go : (flow : Flow) (s : State) → Leaves fr w flow s → Leaves fr (with_normal out w) flow s
    go Normal s k = f.is fr s k
    go Broken s k = k
    go Continued s k = k
    go (Returned v) s k = k

pub branches_rule : (fr : Frame) (e : Value) (a b : Statement) (o on off : Option Known) (w w2 out : Ways) → Tests fr e o on off →
    Executes fr a on w → Executes fr b off w2 → WaysImply w out → WaysImply w2 out → Executes fr (typed.branches e a b) o out
branches_rule fr e a b o on off w w2 out he ha hb f g = record {
  runs = λ d s c. tick_ends fr.listed s _ (Leaves fr out) (λ n.
      test_then fr d e o on off (record s { clock = n }) (λ v s. execute fr.program (calling fr.program d) fr.objects a s) (λ v s. execute fr.program (calling fr.program d) fr.objects b s) (Leaves fr out) he c
      (λ v s2 c2. (executes_more fr a on w out ha f).runs d s2 c2)
      (λ v s2 c2. (executes_more fr b off w2 out hb g).runs d s2 c2));
}

-- ---- loops (6.8.5)

-- left after its test or by a break, or by a return
abbrev pub loop_ways : (out : Option Known) → Ways → Ways
loop_ways out w = record { normal = out; broken = None; continued = None; returned = w.returned; value = w.value }

module _ (fr : Frame) (kept on off : Option Known) (w : Ways) (behind out : Option Known) (test step : Option Value) (a : Statement)
    (ht : TestsOr fr test kept on off) (ha : Executes fr a on w) (normal : Implies w.normal behind) (continued : Implies w.continued behind) (hs : EvaluatesOr fr step behind kept)
    (broken : Implies w.broken out) (ends : Implies off out) where
  abbrev turning : (d n : ℕ) → State → Run Flow
  turning d n s = turns n (evaluate_or fr.program (calling fr.program d) test) (execute fr.program (calling fr.program d) fr.objects a) (evaluate_or fr.program (calling fr.program d) step) s

  stepping : (d n : ℕ) → ((s : State) → Reaches fr kept s → Ends fr.listed (turning d n s) (Leaves fr (loop_ways out w))) → (s : State) → Reaches fr behind s →
      Ends fr.listed (then_do (evaluate_or fr.program (calling fr.program d) step s) (λ v s. turning d n s)) (Leaves fr (loop_ways out w))
  stepping d n more s c = then_ends fr.listed (evaluate_or fr.program (calling fr.program d) step s) (λ v s. turning d n s) (λ v s2. Reaches fr kept s2) (Leaves fr (loop_ways out w)) (hs.runs d s c) (λ v s2 c2. more s2 c2)

  after_turn : (d n : ℕ) → ((s : State) → Reaches fr kept s → Ends fr.listed (turning d n s) (Leaves fr (loop_ways out w))) → (flow : Flow) (s : State) → Leaves fr w flow s →
      Ends fr.listed (after_body flow s (λ s. then_do (evaluate_or fr.program (calling fr.program d) step s) (λ v s. turning d n s))) (Leaves fr (loop_ways out w))
  after_turn d n more Normal s k = stepping d n more s (normal.is fr s k)
  after_turn d n more Continued s k = stepping d n more s (continued.is fr s k)
  after_turn d n more Broken s k = broken.is fr s k
  after_turn d n more (Returned v) s k = k

  pub turns_rule : (d n : ℕ) (s : State) → Reaches fr kept s → Ends fr.listed (turning d n s) (Leaves fr (loop_ways out w))
  turns_rule d zero s c = tt
  turns_rule d (suc n) s c =
      then_ends fr.listed (evaluate_or fr.program (calling fr.program d) test s) _ (λ v s2. Reaches fr (either_way (truth v) on off) s2) (Leaves fr (loop_ways out w)) (ht.runs d s c) (λ v s2 m.
      by_truth (truth v) fr on off s2 (then_do (execute fr.program (calling fr.program d) fr.objects a s2) (λ flow s. after_body flow s (λ s. then_do (evaluate_or fr.program (calling fr.program d) step s) (λ v s. turning d n s)))) (Goes Normal s2)
      (Leaves fr (loop_ways out w)) m
      (λ c2. then_ends fr.listed (execute fr.program (calling fr.program d) fr.objects a s2) _ (Leaves fr w) (Leaves fr (loop_ways out w)) (ha.runs d s2 c2) (λ flow s3 k. after_turn d n (turns_rule d n) flow s3 k))
      (λ c2. ends.is fr s2 c2))

pub tests_some : (fr : Frame) (e : Value) (o on off : Option Known) → Tests fr e o on off → TestsOr fr (Some e) o on off
tests_some fr e o on off h = record { runs = h.runs }

one_is_true : (fr : Frame) (o off : Option Known) (s : State) → Reaches fr o s → Reaches fr (either_way true o off) s
one_is_true fr o off s h = h

pub tests_none : (fr : Frame) (o : Option Known) → TestsOr fr None o o None
tests_none fr o = record { runs = λ d s c. one_is_true fr o None s c }

pub evaluates_some : (fr : Frame) (e : Value) (o : Option Known) (i : Interval) (o2 o3 : Option Known) → Evaluates fr e o i o2 → Implies o2 o3 → EvaluatesOr fr (Some e) o o3
evaluates_some fr e o i o2 o3 h f = record {
  runs = λ d s c. weaker fr.listed (evaluate fr.program (calling fr.program d) e s) (λ v s2. In i v × Reaches fr o2 s2) (λ v s2. Reaches fr o3 s2) (h.runs d s c) (λ v s2 m. f.is fr s2 m.1);
}

pub evaluates_none : (fr : Frame) (o o2 : Option Known) → Implies o o2 → EvaluatesOr fr None o o2
evaluates_none fr o o2 f = record { runs = λ d s c. f.is fr s c }

pub while_rule : (fr : Frame) (e : Value) (a : Statement) (o kept on off : Option Known) (w : Ways) (out : Option Known) → Implies o kept → Tests fr e kept on off → Executes fr a on w → Implies w.normal kept → Implies w.continued kept →
    Implies w.broken out → Implies off out → Executes fr (typed.while e a) o (loop_ways out w)
while_rule fr e a o kept on off w out f ht ha n k b x = record {
  runs = λ d s c. tick_ends fr.listed s _ (Leaves fr (loop_ways out w)) (λ m.
      turns_rule fr kept on off w kept out (Some e) None a (tests_some fr e kept on off ht) ha n k (evaluates_none fr kept kept (implies_same kept)) b x d m (record s { clock = m }) (f.is fr s c));
}

pub do_rule : (fr : Frame) (e : Value) (a : Statement) (o : Option Known) (w kept_ways : Ways) (kept on off out : Option Known) → Executes fr a o w → Implies w.normal kept → Implies w.continued kept →
    Tests fr e kept on off → Executes fr a on kept_ways → Implies kept_ways.normal kept → Implies kept_ways.continued kept → Implies kept_ways.broken out → Implies off out → (all : Ways) → WaysImply (loop_ways out w) all → WaysImply (loop_ways out kept_ways) all →
    Implies w.broken out → Executes fr (typed.do_while a e) o all
do_rule fr e a o w w2 kept on off out h0 n0 k0 ht ha n k b x all f g b0 = record {
  runs = λ d s c. tick_ends fr.listed s _ (Leaves fr all) (λ m.
      then_ends fr.listed (execute fr.program (calling fr.program d) fr.objects a (record s { clock = m })) _ (Leaves fr w) (Leaves fr all) (h0.runs d (record s { clock = m }) c) (λ flow s2 q. next d flow s2 q));
}
  where
    again : (d : ℕ) (s : State) → Reaches fr kept s → Ends fr.listed (turns s.clock (evaluate_or fr.program (calling fr.program d) (Some e)) (execute fr.program (calling fr.program d) fr.objects a) (evaluate_or fr.program (calling fr.program d) None) s) (Leaves fr all)
    again d s c = weaker fr.listed (turns s.clock (evaluate_or fr.program (calling fr.program d) (Some e)) (execute fr.program (calling fr.program d) fr.objects a) (evaluate_or fr.program (calling fr.program d) None) s) (Leaves fr (loop_ways out w2)) (Leaves fr all)
        (turns_rule fr kept on off w2 kept out (Some e) None a (tests_some fr e kept on off ht) ha n k (evaluates_none fr kept kept (implies_same kept)) b x d s.clock s c) (λ flow s2 q. leaves_more fr (loop_ways out w2) all flow s2 g q)

    next : (d : ℕ) (flow : Flow) (s : State) → Leaves fr w flow s →
        Ends fr.listed (after_body flow s (λ s. turns s.clock (evaluate fr.program (calling fr.program d) e) (execute fr.program (calling fr.program d) fr.objects a) (evaluate_or fr.program (calling fr.program d) None) s)) (Leaves fr all)
    next d Normal s q = again d s (n0.is fr s q)
    next d Continued s q = again d s (k0.is fr s q)
    next d Broken s q = f.normal.is fr s (b0.is fr s q)
    next d (Returned v) s q = f.returned fr v s q.0 q.1

-- the declarations in the parentheses are executed as statements that are left normally alone
pub for_rule : (fr : Frame) (declared : Statements) (start test step : Option Value) (a : Statement) (o : Option Known) (before : Ways) (o2 kept on off : Option Known) (w : Ways) (behind out : Option Known) →
    ExecutesAll fr declared o before → Implies before.broken before.normal → Implies before.continued before.normal → Implies before.returned before.normal → EvaluatesOr fr start before.normal o2 → Implies o2 kept → TestsOr fr test kept on off → Executes fr a on w → Implies w.normal behind →
    Implies w.continued behind → EvaluatesOr fr step behind kept → Implies w.broken out → Implies off out → Executes fr (typed.for declared start test step a) o (loop_ways out w)
for_rule fr declared start test step a o before o2 kept on off w behind out hd jb jc jr hs f ht ha n k hp b x = record {
  runs = λ d s c. tick_ends fr.listed s _ (Leaves fr (loop_ways out w)) (λ m.
      then_ends fr.listed (execute_all fr.program (calling fr.program d) fr.objects declared (record s { clock = m })) _ (Leaves fr before) (Leaves fr (loop_ways out w)) (hd.runs d (record s { clock = m }) c) (λ flow s2 q.
      then_ends fr.listed (evaluate_or fr.program (calling fr.program d) start s2) _ (λ v s3. Reaches fr o2 s3) (Leaves fr (loop_ways out w)) (hs.runs d s2 (falls flow s2 q)) (λ v s3 c3.
      turns_rule fr kept on off w behind out test step a ht ha n k hp b x d s3.clock s3 (f.is fr s3 c3))));
}
  where
    falls : (flow : Flow) (s : State) → Leaves fr before flow s → Reaches fr before.normal s
    falls Normal s q = q
    falls Broken s q = jb.is fr s q
    falls Continued s q = jc.is fr s q
    falls (Returned v) s q = jr.is fr s q.1

-- ---- jumps (6.8.6.2 to 6.8.6.4)

pub break_rule : (fr : Frame) (o : Option Known) (k : AbsValue) → Executes fr typed.break o (record { normal = None; broken = o; continued = None; returned = None; value = k })
break_rule fr o k = record { runs = λ d s c. tick_ends fr.listed s _ (Leaves fr (record { normal = None; broken = o; continued = None; returned = None; value = k })) (λ n. c) }

pub continue_rule : (fr : Frame) (o : Option Known) (k : AbsValue) → Executes fr typed.continue o (record { normal = None; broken = None; continued = o; returned = None; value = k })
continue_rule fr o k = record { runs = λ d s c. tick_ends fr.listed s _ (Leaves fr (record { normal = None; broken = None; continued = o; returned = None; value = k })) (λ n. c) }

abbrev pub only_returned : AbsValue → Option Known → Ways
only_returned k o = record { normal = None; broken = None; continued = None; returned = o; value = k }

pub return_nothing_rule : (fr : Frame) (o : Option Known) (k : AbsValue) → k.initialised ≡ false → Executes fr typed.return_nothing o (only_returned k o)
return_nothing_rule fr o k e = record { runs = λ d s c. tick_ends fr.listed s _ (Leaves fr (only_returned k o)) (λ n. (e, c)) }

pub return_value_rule : (fr : Frame) (t : IntType) (e : Value) (o : Option Known) (i : Interval) (o2 : Option Known) (k : AbsValue) → Evaluates fr e o i o2 → Converts t i k.interval →
    Executes fr (typed.return_value t e) o (only_returned k o2)
return_value_rule fr t e o i o2 k h g = record {
  runs = λ d s c. tick_ends fr.listed s _ (Leaves fr (only_returned k o2)) (λ n.
      value_then fr d e o i o2 (record s { clock = n }) _ (Leaves fr (only_returned k o2)) h c (λ v s2 m c2. (g.gives v m, c2)));
}

-- ---- one statement after others (6.8.2)

pub begins : (fr : Frame) (all : Statements) (o : Option Known) (so_far out : Ways) → so_far.normal ≡ o → Continues fr so_far all out → ExecutesAll fr all o out
begins fr all o so_far out e h = let P : Option Known → Type 0 = λ o. ExecutesAll fr all o out in subst P e (record { runs = h.runs })

pub ended : (fr : Frame) (w : Ways) → Continues fr w typed.no_statements w
ended fr w = record { runs = λ d s c. c; jumps = record { normal = none_implies w.normal; broken = implies_same w.broken; continued = implies_same w.continued; returned = λ fr v s h k. (h, k) } }

jumps_more : (w w2 out : Ways) → WaysImply (record w { normal = None }) w2 → WaysImply (record w2 { normal = None }) out → WaysImply (record w { normal = None }) out
jumps_more w w2 out f g = record {
  normal = none_implies out.normal;
  broken = implies_then w.broken w2.broken out.broken f.broken g.broken;
  continued = implies_then w.continued w2.continued out.continued f.continued g.continued;
  returned = λ fr v s h k. let q = f.returned fr v s h k in g.returned fr v s q.0 q.1;
}

next_leaves : (fr : Frame) (w2 : Ways) (more : Statements) (out : Ways) → Continues fr w2 more out → (d : ℕ) (flow : Flow) (s : State) → Leaves fr w2 flow s →
    Ends fr.listed (next_after flow s (execute_all fr.program (calling fr.program d) fr.objects more)) (Leaves fr out)
next_leaves fr w2 more out k d Normal s m = k.runs d s m
next_leaves fr w2 more out k d Broken s m = k.jumps.broken.is fr s m
next_leaves fr w2 more out k d Continued s m = k.jumps.continued.is fr s m
next_leaves fr w2 more out k d (Returned v) s m = k.jumps.returned fr v s m.0 m.1

pub followed : (fr : Frame) (w : Ways) (a : Statement) (w2 : Ways) (more : Statements) (out : Ways) → Follows fr w a w2 → Continues fr w2 more out → Continues fr w (typed.and_statement a more) out
followed fr w a w2 more out h k = record {
  runs = λ d s c. then_ends fr.listed (execute fr.program (calling fr.program d) fr.objects a s) _ (Leaves fr w2) (Leaves fr out) (h.runs d s c) (λ flow s2 m. next_leaves fr w2 more out k d flow s2 m);
  jumps = jumps_more w w2 out h.jumps k.jumps;
}

pub follows_rule : (fr : Frame) (w : Ways) (a : Statement) (w2 out : Ways) → Executes fr a w.normal w2 → WaysImply (record w { normal = None }) out → WaysImply w2 out → Follows fr w a out
follows_rule fr w a w2 out h f g = record { runs = (executes_more fr a w.normal w2 out h g).runs; jumps = f }

-- ---- switch (6.8.4.2)

-- the labels from number n on are left, count of them in all; a default was met, or is among those left
label_ends : (fr : Frame) (o : Option Known) (v : ℤ) (labels : List (Option ℤ)) (n : ℕ) (found : Option ℕ) (all : List (Option ℤ)) (s : State) → n + length labels ≡ length all → MayJump all found ⊎ (found ≡ None) × (has_default all ≡ has_default labels) →
    Reaches fr o s → Ends fr.listed (label_for v labels n found s) (λ label s2. MayJump all label × Reaches fr o s2)
label_ends fr o v [] n found all s e (inl m) c = (m, c)
label_ends fr o v [] n found all s e (inr m) c = let P : Option ℕ → Type 0 = MayJump all in (subst P (sym m.0) m.1, c)
label_ends fr o v (None ∷ labels) n found all s e m c = label_ends fr o v labels (suc n) (Some n) all s (let q : n + suc (length labels) ≡ length all = e in omega (arith, q)) (inl (let q : n + suc (length labels) ≡ length all = e in omega (arith, q))) c
label_ends fr o v (Some w ∷ labels) n found all s e m c =
    let q : n + suc (length labels) ≡ length all = e in
    tick_ends fr.listed s (λ s. choose (same_value w v) (Goes (Some n) s) (label_for v labels (suc n) found s)) (λ label s2. MayJump all label × Reaches fr o s2) (λ k.
    choose_ends fr.listed (same_value w v) (Goes (Some n) (record s { clock = k })) (label_for v labels (suc n) found (record s { clock = k })) (λ label s2. MayJump all label × Reaches fr o s2)
    (omega (arith, q), c) (label_ends fr o v labels (suc n) found all (record s { clock = k }) (omega (arith, q)) m c))

abbrev pub switch_ways : (out : Option Known) → Ways → Ways
switch_ways out w = record { normal = out; broken = None; continued = w.continued; returned = w.returned; value = w.value }

pub switch_rule : (fr : Frame) (t : IntType) (e : Value) (first count : ℕ) (all : Statements) (o : Option Known) (i : Interval) (o2 o3 : Option Known) (so_far w : Ways) (out : Option Known) → Evaluates fr e o i o2 →
    Renews fr first count o2 o3 → Enters fr o3 so_far all w → Implies w.normal out → Implies w.broken out → (has_default (labels_of all) ≡ false → Implies o3 out) → Executes fr (typed.switch t e first count all) o (switch_ways out w)
switch_rule fr t e first count all o i o2 o3 so_far w out he hr h n b x = record {
  runs = λ d s c.
      let post : Flow → State → Type 0 = Leaves fr (switch_ways out w) in
      tick_ends fr.listed s _ post (λ m.
      value_then fr d e o i o2 (record s { clock = m }) _ post he c (λ v s2 mv c2.
      tick_ends fr.listed s2 _ post (λ m2.
      let s3 : State = all_renewed fr.objects first count (record s2 { clock = m2 }) in
      then_ends fr.listed (label_for (converted t v) (labels_of all) 0 None s3) _ (λ label s4. MayJump (labels_of all) label × Reaches fr o3 s4) post
      (label_ends fr o3 (converted t v) (labels_of all) 0 None (labels_of all) s3 (omega arith) (inr (refl, refl)) (hr.is (record s2 { clock = m2 }) c2))
      (λ label s4 q. then_ends fr.listed (execute_from fr.program (calling fr.program d) fr.objects label all s4) after_switch (Leaves fr (record w { normal = out })) post (from d label s4 q.0 q.1) (λ flow s5 k. leave flow s5 k)))));
}
  where
    none_from : (d : ℕ) (s : State) (all : Statements) → Reaches fr out s → Ends fr.listed (execute_from fr.program (calling fr.program d) fr.objects None all s) (Leaves fr (record w { normal = out }))
    none_from d s typed.no_statements c = c
    none_from d s (typed.and_statement a more) c = c

    from : (d : ℕ) (label : Option ℕ) (s : State) → MayJump (labels_of all) label → Reaches fr o3 s → Ends fr.listed (execute_from fr.program (calling fr.program d) fr.objects label all s) (Leaves fr (record w { normal = out }))
    from d None s j c = none_from d s all ((x j).is fr s c)
    from d (Some k) s j c = weaker fr.listed (execute_from fr.program (calling fr.program d) fr.objects (Some k) all s) (Leaves fr w) (Leaves fr (record w { normal = out })) (h.jumped d k s j c)
        (λ flow s2 q. leaves_more fr w (record w { normal = out }) flow s2 (record { normal = n; broken = implies_same w.broken; continued = implies_same w.continued; returned = λ fr v s h k. (h, k) }) q)

    leave : (flow : Flow) (s : State) → Leaves fr (record w { normal = out }) flow s → Ends fr.listed (after_switch flow s) (Leaves fr (switch_ways out w))
    leave Normal s q = q
    leave Broken s q = b.is fr s q
    leave Continued s q = q
    leave (Returned v) s q = q

pub enters_none : (fr : Frame) (entry : Option Known) (w : Ways) → Enters fr entry w typed.no_statements w
enters_none fr entry w = record { follows = ended fr w; jumped = λ d label s h c. absurd (omega (arith, h)) }

-- a statement that is no label
pub enters_statement : (fr : Frame) (entry : Option Known) (w : Ways) (a : Statement) (w2 : Ways) (more : Statements) (out : Ways) → labels_at a ≡ [] → Follows fr w a w2 → Enters fr entry w2 more out → Enters fr entry w (typed.and_statement a more) out
enters_statement fr entry w a w2 more out e h k = record {
  follows = followed fr w a w2 more out h k.follows;
  jumped = λ d label s lt c.
      let P : List (Option ℤ) → Type 0 = λ labels. label < length (labels ++ labels_of more) →
      Ends fr.listed (choose (nat_lt label (length labels)) (then_do (execute fr.program (calling fr.program d) fr.objects a s) (λ flow s. next_after flow s (execute_all fr.program (calling fr.program d) fr.objects more)))
      (execute_from fr.program (calling fr.program d) fr.objects (Some (label - length labels)) more s)) (Leaves fr out) in
      subst P (sym e) (λ lt.
      let N : ℕ → Type 0 = λ n. Ends fr.listed (execute_from fr.program (calling fr.program d) fr.objects (Some n) more s) (Leaves fr out) in
      let q : label ≡ label - 0 = omega arith in
      second fr.listed (nat_lt label 0) _ _ (Leaves fr out) (never label) (subst N q (k.jumped d label s lt c))) lt;
}
  where
    never : (n : ℕ) → nat_lt n 0 ≡ false
    never n = grind (arith, nat_tests)

-- a label: the abstract state before the switch reaches it too
pub enters_label : (fr : Frame) (entry : Option Known) (w : Ways) (a : Statement) (v : Option ℤ) (o : Option Known) (w2 : Ways) (more : Statements) (out : Ways) → labels_at a ≡ v ∷ [] → Implies entry o → Implies w.normal o →
    Follows fr (with_normal o w) a w2 → Enters fr entry w2 more out → Enters fr entry w (typed.and_statement a more) out
enters_label fr entry w a v o w2 more out e fe fw h k = record {
  follows = record {
    runs = λ d s c. then_ends fr.listed (execute fr.program (calling fr.program d) fr.objects a s) _ (Leaves fr w2) (Leaves fr out) (h.runs d s (fw.is fr s c)) (λ flow s2 m. next_leaves fr w2 more out k.follows d flow s2 m);
    jumps = jumps_more (with_normal o w) w2 out h.jumps k.follows.jumps;
  };
  jumped = λ d label s lt c.
      let P : List (Option ℤ) → Type 0 = λ labels. label < length (labels ++ labels_of more) →
      Ends fr.listed (choose (nat_lt label (length labels)) (then_do (execute fr.program (calling fr.program d) fr.objects a s) (λ flow s. next_after flow s (execute_all fr.program (calling fr.program d) fr.objects more)))
      (execute_from fr.program (calling fr.program d) fr.objects (Some (label - length labels)) more s)) (Leaves fr out) in
      subst P (sym e) (λ lt. by d label s c lt) lt;
}
  where
    here : (d : ℕ) (s : State) → Reaches fr entry s → Ends fr.listed (then_do (execute fr.program (calling fr.program d) fr.objects a s) (λ flow s. next_after flow s (execute_all fr.program (calling fr.program d) fr.objects more))) (Leaves fr out)
    here d s c = then_ends fr.listed (execute fr.program (calling fr.program d) fr.objects a s) _ (Leaves fr w2) (Leaves fr out) (h.runs d s (fe.is fr s c)) (λ flow s2 m. next_leaves fr w2 more out k.follows d flow s2 m)

    first_label : (n : ℕ) → n < 1 → nat_lt n 1 ≡ true
    first_label n lt = grind (arith, nat_tests)

    by : (d label : ℕ) (s : State) → Reaches fr entry s → label < suc (length (labels_of more)) →
        Ends fr.listed (choose (nat_lt label 1) (then_do (execute fr.program (calling fr.program d) fr.objects a s) (λ flow s. next_after flow s (execute_all fr.program (calling fr.program d) fr.objects more)))
        (execute_from fr.program (calling fr.program d) fr.objects (Some (label - 1)) more s)) (Leaves fr out)
    by d zero s c lt = here d s c
    by d (suc n) s c lt =
        let N : ℕ → Type 0 = λ n. Ends fr.listed (execute_from fr.program (calling fr.program d) fr.objects (Some n) more s) (Leaves fr out) in
        let q : n ≡ suc n - 1 = omega arith in
        let l : n < length (labels_of more) = omega (arith, lt) in
        choose_ends fr.listed (nat_lt (suc n) 1) _ _ (Leaves fr out) (here d s c) (subst N q (k.jumped d n s l c))
