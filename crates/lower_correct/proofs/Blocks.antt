-- The code follows declarations, blocks and branches, if it follows their parts.
use Rattle.std.proofs.Common.{◌≡◌, ℕ, ◌+◌, ◌*◌, ◌≤◌, List, Option, Some, Bool, true, false, not, ℤ, refl, sym, ap, ◌∙◌, subst, arith}
use Rattle.ctypes.specs.declared.types.IntType.{IntType}
use Rattle.ctypes.specs.Types.{IsValueOf, truth, converted}
use Rattle.ctypes.proofs.Uses.{converted_fits, converted_keeps}
use Rattle.typing_spec.specs.Program as typed
use Rattle.typing_spec.specs.Program.{Initialiser, Statement, Statements, Value as Expression}
use Rattle.csem.specs.Store.{Element, whole}
use Rattle.csem.specs.Machine as machine
use Rattle.csem.specs.Machine.{Run, Goes, Stops, then_do, choose, tick, stored}
use Rattle.csem.specs.Expressions.{Calling, evaluate}
use Rattle.csem.specs.Statements.{Flow, Normal, Broken, Continued, Returned, renewed, all_renewed}
use Rattle.tac_code.specs.declared.code.Target.TheVariants as target
use Rattle.tac_code.specs.declared.code.Instruction.TheVariants as instruction
use Rattle.tac_code.specs.Code.{Program, function_at}
use Rattle.tac_code.specs.Run.{Call, State, running, word_for, forgotten}
use Rattle.lower_correct.specs.Values.{If}
use Rattle.lower_correct.specs.Code.{One}
use Rattle.lower_correct.proofs.Words.{differ, ranged, converts_again}
use Rattle.lower_correct.proofs.Steps.{stays, GoesTo, goes, from, Sim, sim_after, sim_then, sim_more, sim_map, sim_move, tick_in}
use Rattle.lower_correct.proofs.Standing.{Scratch, here, slots_only, does_nothing, does_jump, does_forget, world, first_automatic}
use Rattle.lower_correct.proofs.Stores.{Fine, After, after_on, with_tree, fine_put, put_is_stored, after_put, fine_later, after_since}
use Rattle.lower_correct.proofs.Goods.{Good, object_state}
use Rattle.lower_correct.proofs.Leaves.{IsNumber, scalar_is, IntoDoes, Converted, ConvertsDoes}
use Rattle.lower_correct.proofs.Flows.{writes_all, all_forgotten, StandsAt, FlowGood, Runs, Lists, flow_since, there}

module _ (p : typed.Program) (call : Calling) (q : Program) (deep f : ℕ) (result : Option IntType) where
  all_after : (w : ℕ → Bool) (a b : machine.State) → After (first_automatic q) w a b → After (first_automatic q) writes_all a b
  all_after w a b h = record { base = h.base; arrays = h.arrays; below = h.below; still = λ x e. absurd (differ (sym e)) }

  loosely : {A : Type 0} (Good2 : A → machine.State → State → Type 0) (hi lo hi2 lo2 : ℕ) (z : State) (r : Run A) → hi2 ≤ hi → lo ≤ lo2
      → Sim q 14 hi2 lo2 z Good2 r → Sim q 14 hi lo z Good2 r
  loosely Good2 hi lo hi2 lo2 z r h1 h2 l = sim_after q 14 Good2 hi lo hi2 lo2 0 0 z z r (stays q z) (omega (arith, h1)) (omega (arith, h2)) l

  -- ---- blocks (6.8.2), declarations (6.7)

  pub block_runs : (rb : machine.State → Run Flow) (first count pc p1 end out again : ℕ) → One (function_at q f).code (instruction.Forget first count) pc p1
      → Lists p call q deep f result rb p1 end out again
      → Runs p call q deep f result (λ s. tick s (λ s. rb (all_renewed (function_at q f).objects first count s))) pc end out again
  block_runs rb first count pc p1 end out again o db s now ws le fine =
      let Good2 = FlowGood p call q deep f result end out again s ws in
      tick_in q 14 Good2 (here f pc now ws s) (here f p1 (slots_only now) ws (record s { store = forgotten (function_at q f).objects s.base first count s.store })) s 0
      (60 * s.clock) (λ s. rb (all_renewed (function_at q f).objects first count s)) (omega arith) refl refl
      (does_forget q f first count pc p1 now ws s o)
      (λ n lt.
      let s1 : machine.State = record s { clock = n } in
      let h = all_forgotten (world p q f ws) first count s1 (fine_later (world p q f ws) s n fine) in
      let s2 = all_renewed (function_at q f).objects first count s1 in
      sim_move q 14 Good2 (60 * n + 60 + 0) n (here f p1 (slots_only now) ws (record s1 { store = forgotten (function_at q f).objects s1.base first count s1.store }))
      (here f p1 (slots_only now) ws s2) (rb s2) (ap (here f p1 (slots_only now) ws) h.same)
      (loosely Good2 (60 * n + 60 + 0) n (60 * s2.clock + 14) s2.clock (here f p1 (slots_only now) ws s2) (rb s2) (omega (arith, h.clock)) (omega (arith, h.clock))
      (sim_map q 14 14 (FlowGood p call q deep f result end out again s2 ws) Good2 (60 * s2.clock + 14) (60 * s2.clock + 14) s2.clock (here f p1 (slots_only now) ws s2)
      (rb s2) (omega arith) (omega arith) (db s2 (slots_only now) ws (omega (arith, le, lt, h.clock)) h.fine)
      (λ flow s3 z g. flow_since p call q deep f result end out again s s2 ws (after_since writes_all s s2 n h.after) flow s3 z g))))

  pub declare_runs : (x pc end out again : ℕ) → One (function_at q f).code (instruction.Forget x 1) pc end
      → Runs p call q deep f result (λ s. tick s (λ s. Goes Normal (renewed (function_at q f).objects x s))) pc end out again
  declare_runs x pc end out again o s now ws le fine =
      let Good2 = FlowGood p call q deep f result end out again s ws in
      tick_in q 14 Good2 (here f pc now ws s) (here f end (slots_only now) ws (record s { store = forgotten (function_at q f).objects s.base x 1 s.store })) s 0
      (60 * s.clock) (λ s. Goes Normal (renewed (function_at q f).objects x s)) (omega arith) refl refl
      (does_forget q f x 1 pc end now ws s o)
      (λ n lt.
      let s1 : machine.State = record s { clock = n } in
      let h = all_forgotten (world p q f ws) x 1 s1 (fine_later (world p q f ws) s n fine) in
      there p call q deep f result end out again (60 * n + 60 + 0) s ws Normal (renewed (function_at q f).objects x s1)
      (here f end (slots_only now) ws (record s { store = forgotten (function_at q f).objects s.base x 1 s.store })) (omega arith)
      (record { now = slots_only now; at = refl; fine = h.fine; after = after_since writes_all s (renewed (function_at q f).objects x s1) n h.after }))

  -- ---- first values (6.7.9)

  abbrev pub BeginsAt : (machine.State → Run (Unit {0})) → (b pc pc2 : ℕ) → Type 0
  BeginsAt r b pc pc2 = (s : machine.State) (now : Scratch) (ws : List Call) → s.base ≡ b → s.clock ≤ deep → Fine (world p q f ws) s
      → Sim q 14 (60 * s.clock + 8) s.clock (here f pc now ws s) (λ u. StandsAt p call q deep f result pc2 s ws) (r s)

  pub value_begins : (u : IntType) (e : Expression) (x b pc p1 pc2 : ℕ) → IsNumber (function_at q f).objects x u
      → ConvertsDoes p call q deep f e u (target.Object x) 0 0 pc p1 → One (function_at q f).code instruction.Nothing p1 pc2
      → BeginsAt (λ s. then_do (evaluate p call e s) (λ v s. tick s (λ s. Goes tt (stored (whole (b + x)) (converted u v) s)))) b pc pc2
  value_begins u e x b pc p1 pc2 num de o s now ws eb le fine =
      let Good2 : Unit {0} → machine.State → State → Type 0 = λ y. StandsAt p call q deep f result pc2 s ws in
      sim_then q 14 14 (Converted p call q deep f e u (target.Object x) 0 0 p1 s now ws) Good2 (60 * s.clock + 8) 14 (60 * s.clock + 8) s.clock
      (here f pc now ws s) (evaluate p call e s) (λ v s. tick s (λ s. Goes tt (stored (whole (b + x)) (converted u v) s))) (omega arith) (omega arith)
      (de s now ws le fine)
      (λ v s2 z lt c.
      let cv = converted u v in
      let s3 = with_tree x (Element (Some cv)) s2 in
      let eb2 : s2.base ≡ b = c.known.after.base ∙ eb in
      let at : z ≡ here f p1 c.now ws s3 = c.at
      ∙ ap (here f p1 c.now ws) (object_state p q f x u (word_for cv) cv s2 (scalar_is (function_at q f).objects x u num)
      (converts_again u cv (ranged u cv (converted_fits u v)) ∙ converted_keeps u cv (converted_fits u v))) in
      sim_move q 14 Good2 (60 * s2.clock + 14) s2.clock z (here f p1 c.now ws s3) (tick s2 (λ s. Goes tt (stored (whole (b + x)) cv s))) at
      (subst (λ n. Sim q 14 (60 * s2.clock + 14) s2.clock (here f p1 c.now ws s3) Good2 (tick s2 (λ s. Goes tt (stored (whole (n + x)) cv s)))) eb2
      (tick_in q 14 Good2 (here f p1 c.now ws s3) (here f pc2 c.now ws s3) s2 14 (60 * s2.clock + 14) (λ s. Goes tt (stored (whole (s2.base + x)) cv s))
      (omega arith) refl refl (does_nothing q f p1 pc2 c.now ws s3 o)
      (λ k lt2.
      let later : machine.State = record s2 { clock = k } in
      let s4 = with_tree x (Element (Some cv)) later in
      let fine2 = fine_later (world p q f ws) s2 k c.known.fine in
      subst (λ y. Sim q 14 (60 * k + 60 + 14) k (here f pc2 c.now ws s3) Good2 (Goes tt y)) (put_is_stored (world p q f ws) x num.type cv later num.at num.lengths fine2)
      (goes q 14 (StandsAt p call q deep f result pc2 s ws) (60 * k + 60 + 14) k 0 0 (here f pc2 c.now ws s3) (here f pc2 c.now ws s3) s4
      (stays q (here f pc2 c.now ws s3)) (omega arith) (omega arith)
      (record {
        now = c.now;
        at = refl;
        fine = fine_put (world p q f ws) x num.type cv later num.at num.lengths (subst (λ y. IsValueOf y cv) (sym num.element) (converted_fits u v)) fine2;
        after = after_on writes_all writes_all writes_all s s2 s4 (λ y h. h) (λ y h. h) (all_after _ s s2 c.known.after)
            (after_since writes_all s2 s4 k (after_put writes_all x (Element (Some cv)) later refl));
      }))))))

  pub braces_begin : (ri : machine.State → Run (Unit {0})) (b pc p1 pc2 : ℕ) → One (function_at q f).code instruction.Nothing pc p1 → BeginsAt ri b p1 pc2
      → BeginsAt (λ s. tick s ri) b pc pc2
  braces_begin ri b pc p1 pc2 o di s now ws eb le fine =
      let Good2 : Unit {0} → machine.State → State → Type 0 = λ y. StandsAt p call q deep f result pc2 s ws in
      tick_in q 14 Good2 (here f pc now ws s) (here f p1 now ws s) s 8 (60 * s.clock + 8) ri (omega arith) refl refl (does_nothing q f pc p1 now ws s o)
      (λ k lt.
      let s1 : machine.State = record s { clock = k } in
      let Good3 : Unit {0} → machine.State → State → Type 0 = λ y. StandsAt p call q deep f result pc2 s1 ws in
      sim_map q 14 14 Good3 Good2 (60 * k + 8) (60 * k + 60 + 8) k (here f p1 now ws s) (ri s1) (omega arith) (omega arith)
      (di s1 now ws eb (omega (arith, le, lt)) (fine_later (world p q f ws) s k fine))
      (λ y s2 z g. record { now = g.now; at = g.at; fine = g.fine; after = after_since writes_all s s2 k g.after }))

  pub define_runs : (ri : ℕ → machine.State → Run (Unit {0})) (x pc p1 end out again : ℕ) → One (function_at q f).code (instruction.Forget x 1) pc p1
      → ((b : ℕ) → BeginsAt (ri b) b p1 end)
      → Runs p call q deep f result (λ s. tick s (λ s. then_do (ri s.base (renewed (function_at q f).objects x s)) (λ u s. Goes Normal s))) pc end out again
  define_runs ri x pc p1 end out again o di s now ws le fine =
      let Good2 = FlowGood p call q deep f result end out again s ws in
      let last : Unit {0} → machine.State → Run Flow = λ u s. Goes Normal s in
      tick_in q 14 Good2 (here f pc now ws s) (here f p1 (slots_only now) ws (record s { store = forgotten (function_at q f).objects s.base x 1 s.store })) s 0
      (60 * s.clock) (λ s. then_do (ri s.base (renewed (function_at q f).objects x s)) last) (omega arith) refl refl
      (does_forget q f x 1 pc p1 now ws s o)
      (λ n lt.
      let s1 : machine.State = record s { clock = n } in
      let s2 = renewed (function_at q f).objects x s1 in
      let h = all_forgotten (world p q f ws) x 1 s1 (fine_later (world p q f ws) s n fine) in
      let Good3 : Unit {0} → machine.State → State → Type 0 = λ y. StandsAt p call q deep f result end s2 ws in
      sim_then q 14 14 Good3 Good2 (60 * n + 8) 66 (60 * n + 60 + 0) n (here f p1 (slots_only now) ws s2) (ri s.base s2) last (omega arith) (omega arith)
      (di s.base s2 (slots_only now) ws refl (omega (arith, le, lt)) h.fine)
      (λ y s3 z lt2 g. there p call q deep f result end out again (60 * s3.clock + 66) s ws Normal s3 z (omega arith)
      (record {
        now = g.now;
        at = g.at;
        fine = g.fine;
        after =
            after_on writes_all writes_all writes_all s s2 s3 (λ w e. e) (λ w e. e) (after_since writes_all s s2 n h.after) g.after;
      })))

  -- ---- branches (6.8.4.1)

  choose_not : (b : Bool) (x y : ℕ) → choose (not b) x y ≡ choose b y x
  choose_not true x y = refl
  choose_not false x y = refl

  -- a condition, and the continuation by its truth
  pub condition_runs : (e : Expression) (last : ℤ → machine.State → Run Flow) (pc p1 p2 other end out again : ℕ)
      → One (function_at q f).code instruction.Nothing pc p1 → IntoDoes p call q deep f e (If false other) 0 0 p1 p2
      → ((v : ℤ) (s2 : machine.State) (now2 : Scratch) (before : machine.State) (ws : List Call) → s2.clock ≤ deep → Fine (world p q f ws) s2
      → After (first_automatic q) writes_all before s2
      → Sim q 14 (60 * s2.clock + 74) s2.clock (here f (choose (truth v) p2 other) now2 ws s2) (FlowGood p call q deep f result end out again before ws)
      (last v s2))
      → Runs p call q deep f result (λ s. tick s (λ s. then_do (evaluate p call e s) last)) pc end out again
  condition_runs e last pc p1 p2 other end out again o de next s now ws le fine =
      let Good2 = FlowGood p call q deep f result end out again s ws in
      tick_in q 14 Good2 (here f pc now ws s) (here f p1 now ws s) s 0 (60 * s.clock) (λ s. then_do (evaluate p call e s) last) (omega arith) refl refl
      (does_nothing q f pc p1 now ws s o)
      (λ n lt.
      let s1 : machine.State = record s { clock = n } in
      sim_then q 14 14 (Good p q f e (If false other) 0 0 p2 s1 now ws) Good2 (60 * n) 74 (60 * n + 60 + 0) n (here f p1 now ws s) (evaluate p call e s1) last
      (omega arith) (omega arith)
      (de s1 now ws (omega (arith, le, lt)) (fine_later (world p q f ws) s n fine))
      (λ v s2 z lt2 g. sim_move q 14 Good2 (60 * s2.clock + 74) s2.clock z (here f (choose (truth v) p2 other) g.now ws s2) (last v s2)
      (g.at ∙ ap (λ n. here f n g.now ws s2) (choose_not (truth v) other p2))
      (next v s2 g.now s ws (omega (arith, le, lt, lt2)) g.known.fine (all_after _ s s2 (after_since _ s s2 n g.known.after)))))

  -- a run from an earlier state
  run_since : (ra : machine.State → Run Flow) (pc end out again hi : ℕ) (before s : machine.State) (now : Scratch) (ws : List Call)
      → Runs p call q deep f result ra pc end out again → s.clock ≤ deep → Fine (world p q f ws) s → After (first_automatic q) writes_all before s
      → 60 * s.clock ≤ hi → Sim q 14 hi s.clock (here f pc now ws s) (FlowGood p call q deep f result end out again before ws) (ra s)
  run_since ra pc end out again hi before s now ws da le fine after h =
      sim_map q 14 14 (FlowGood p call q deep f result end out again s ws) (FlowGood p call q deep f result end out again before ws) (60 * s.clock) hi s.clock
      (here f pc now ws s) (ra s) h (omega (arith, h)) (da s now ws le fine)
      (λ flow s2 z g. flow_since p call q deep f result end out again before s ws after flow s2 z g)

  pub branch_runs : (e : Expression) (ra : machine.State → Run Flow) (pc p1 p2 end out again : ℕ) → One (function_at q f).code instruction.Nothing pc p1
      → IntoDoes p call q deep f e (If false end) 0 0 p1 p2 → Runs p call q deep f result ra p2 end out again
      → Runs p call q deep f result (λ s. tick s (λ s. then_do (evaluate p call e s) (λ v s. choose (truth v) (ra s) (Goes Normal s)))) pc end out again
  branch_runs e ra pc p1 p2 end out again o de da =
      condition_runs e (λ v s. choose (truth v) (ra s) (Goes Normal s)) pc p1 p2 end end out again o de
      (λ v s2 now2 before ws le fine after. by_truth (truth v) s2 now2 before ws le fine after)
    where
      by_truth : (b : Bool) (s2 : machine.State) (now2 : Scratch) (before : machine.State) (ws : List Call) → s2.clock ≤ deep
          → Fine (world p q f ws) s2 → After (first_automatic q) writes_all before s2
          → Sim q 14 (60 * s2.clock + 74) s2.clock (here f (choose b p2 end) now2 ws s2) (FlowGood p call q deep f result end out again before ws)
          (choose b (ra s2) (Goes Normal s2))
      by_truth true s2 now2 before ws le fine after = run_since ra p2 end out again (60 * s2.clock + 74) before s2 now2 ws da le fine after (omega arith)
      by_truth false s2 now2 before ws le fine after =
          there p call q deep f result end out again (60 * s2.clock + 74) before ws Normal s2 (here f end now2 ws s2) (omega arith)
          (record { now = now2; at = refl; fine = fine; after = after })

  -- after the first arm, unless it was left
  skip : (p3 other end out again : ℕ) (before : machine.State) (ws : List Call) → One (function_at q f).code (instruction.Jump end) p3 other
      → (flow : Flow) (s : machine.State) (z : State) → FlowGood p call q deep f result p3 out again before ws flow s z
      → GoesTo q 14 (60 * s.clock + 88) s.clock z (FlowGood p call q deep f result end out again before ws flow) s
  skip p3 other end out again before ws o Normal s z g =
      goes q 14 (StandsAt p call q deep f result end before ws) (60 * s.clock + 88) s.clock 1 1 z (here f end g.now ws s) s
      (from q z (here f p3 g.now ws s) 1 1 (running (here f end g.now ws s)) g.at (does_jump q f end p3 other g.now ws s o)) (omega arith) (omega arith)
      (record { now = g.now; at = refl; fine = g.fine; after = g.after })
  skip p3 other end out again before ws o Broken s z g = there p call q deep f result end out again (60 * s.clock + 88) before ws Broken s z (omega arith) g
  skip p3 other end out again before ws o Continued s z g =
      there p call q deep f result end out again (60 * s.clock + 88) before ws Continued s z (omega arith) g
  skip p3 other end out again before ws o (Returned v) s z g =
      there p call q deep f result end out again (60 * s.clock + 88) before ws (Returned v) s z (omega arith) g

  pub branches_runs : (e : Expression) (ra rb : machine.State → Run Flow) (pc p1 p2 p3 other end out again : ℕ)
      → One (function_at q f).code instruction.Nothing pc p1 → IntoDoes p call q deep f e (If false other) 0 0 p1 p2
      → Runs p call q deep f result ra p2 p3 out again → One (function_at q f).code (instruction.Jump end) p3 other
      → Runs p call q deep f result rb other end out again
      → Runs p call q deep f result (λ s. tick s (λ s. then_do (evaluate p call e s) (λ v s. choose (truth v) (ra s) (rb s)))) pc end out again
  branches_runs e ra rb pc p1 p2 p3 other end out again o de da i db =
      condition_runs e (λ v s. choose (truth v) (ra s) (rb s)) pc p1 p2 other end out again o de
      (λ v s2 now2 before ws le fine after. by_truth (truth v) s2 now2 before ws le fine after)
    where
      by_truth : (b : Bool) (s2 : machine.State) (now2 : Scratch) (before : machine.State) (ws : List Call) → s2.clock ≤ deep
          → Fine (world p q f ws) s2 → After (first_automatic q) writes_all before s2
          → Sim q 14 (60 * s2.clock + 74) s2.clock (here f (choose b p2 other) now2 ws s2) (FlowGood p call q deep f result end out again before ws)
          (choose b (ra s2) (rb s2))
      by_truth true s2 now2 before ws le fine after =
          sim_more q 14 14 (FlowGood p call q deep f result p3 out again before ws) (FlowGood p call q deep f result end out again before ws) (60 * s2.clock) 88
          (60 * s2.clock + 74) s2.clock (here f p2 now2 ws s2) (ra s2) (omega arith) (omega arith)
          (run_since ra p2 p3 out again (60 * s2.clock) before s2 now2 ws da le fine after (omega arith))
          (λ flow s3 z lt g. skip p3 other end out again before ws i flow s3 z g)
      by_truth false s2 now2 before ws le fine after = run_since rb other end out again (60 * s2.clock + 74) before s2 now2 ws db le fine after (omega arith)
