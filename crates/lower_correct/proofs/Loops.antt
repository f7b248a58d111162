-- The code follows loops (ISO/IEC 9899:2011 6.8.5), if it follows their parts.
use Rattle.std.proofs.Common.{◌≡◌, ℕ, zero, suc, ◌+◌, ◌*◌, ◌≤◌, List, Option, None, Bool, true, false, ℤ, pos, refl, sym, ap, arith}
use Rattle.ctypes.specs.declared.types.IntType.{IntType}
use Rattle.ctypes.specs.Types.{truth}
use Rattle.typing_spec.specs.Program as typed
use Rattle.typing_spec.specs.Program.{Initialiser, Statement, Statements, Value as Expression}
use Rattle.csem.specs.Machine as machine
use Rattle.csem.specs.Machine.{Run, Goes, Stops, then_do, choose, tick, stored}
use Rattle.csem.specs.Expressions.{Calling, evaluate, evaluate_or}
use Rattle.csem.specs.Statements.{Flow, Normal, Broken, Continued, Returned, after_body, turns}
use Rattle.tac_code.specs.declared.code.Instruction.TheVariants as instruction
use Rattle.tac_code.specs.Code.{Program, function_at}
use Rattle.tac_code.specs.Run.{Call, State}
use Rattle.lower_correct.specs.Values.{Nowhere, If}
use Rattle.lower_correct.specs.Code.{One}
use Rattle.lower_correct.proofs.Words.{differ}
use Rattle.lower_correct.proofs.Steps.{stays, goes, Sim, sim_after, sim_then, sim_map, sim_move, tick_in, tick_ends}
use Rattle.lower_correct.proofs.Standing.{Scratch, here, does_nothing, does_jump, world, first_automatic}
use Rattle.lower_correct.proofs.Stores.{Fine, After, after_on, after_none, fine_later, after_later}
use Rattle.lower_correct.proofs.Goods.{Good}
use Rattle.lower_correct.proofs.Leaves.{IntoDoes}
use Rattle.lower_correct.proofs.Flows.{writes_all, StandsAt, FlowGood, Runs, flow_since, there}

module _ (p : typed.Program) (call : Calling) (q : Program) (deep f : ℕ) (result : Option IntType) where
  all_after : (w : ℕ → Bool) (a b : machine.State) → After (first_automatic q) w a b → After (first_automatic q) writes_all a b
  all_after w a b h = record { base = h.base; arrays = h.arrays; below = h.below; still = λ x e. absurd (differ (sym e)) }

  join_after : (a b z : machine.State) → After (first_automatic q) writes_all a b → After (first_automatic q) writes_all b z → After (first_automatic q) writes_all a z
  join_after a b z h g = after_on writes_all writes_all writes_all a b z (λ x e. e) (λ x e. e) h g

  -- the code is at `top` where a test is true, else at `end`
  pub record TestGood (top end : ℕ) (before : machine.State) (ws : List Call) (v : ℤ) (s : machine.State) (z : State) : Type 0 where
    pub now : Scratch
    pub at : z ≡ here f (choose (truth v) top end) now ws s
    pub fine : Fine (world p q f ws) s
    pub after : After (first_automatic q) writes_all before s

  abbrev pub TestDoes : (machine.State → Run ℤ) → (pc top end : ℕ) → Type 0
  TestDoes r pc top end = (s : machine.State) (now : Scratch) (ws : List Call) → s.clock ≤ deep → Fine (world p q f ws) s
      → Sim q 14 (60 * s.clock + 15) s.clock (here f pc now ws s) (TestGood top end s ws) (r s)

  abbrev pub EffectDoes : (machine.State → Run ℤ) → (pc pc2 : ℕ) → Type 0
  EffectDoes r pc pc2 = (s : machine.State) (now : Scratch) (ws : List Call) → s.clock ≤ deep → Fine (world p q f ws) s
      → Sim q 14 (60 * s.clock + 14) s.clock (here f pc now ws s) (λ v. StandsAt p call q deep f result pc2 s ws) (r s)

  pub test_does : (e : Expression) (pc top end : ℕ) → IntoDoes p call q deep f e (If true top) 0 0 pc end → TestDoes (evaluate p call e) pc top end
  test_does e pc top end de s now ws le fine =
      sim_map q 14 14 (Good p q f e (If true top) 0 0 end s now ws) (TestGood top end s ws) (60 * s.clock) (60 * s.clock + 15) s.clock (here f pc now ws s)
      (evaluate p call e s) (omega arith) (omega arith) (de s now ws le fine)
      (λ v s2 z g. record { now = g.now; at = g.at; fine = g.known.fine; after = all_after _ s s2 g.known.after })

  pub no_test : (pc top end : ℕ) → One (function_at q f).code (instruction.Jump top) pc end → TestDoes (evaluate_or p call None) pc top end
  no_test pc top end o s now ws le fine =
      goes q 14 (TestGood top end s ws (pos 1)) (60 * s.clock + 15) s.clock 1 1 (here f pc now ws s) (here f top now ws s) s
      (does_jump q f top pc end now ws s o) (omega arith) (omega arith)
      (record { now = now; at = refl; fine = fine; after = after_none writes_all s })

  pub effect_does : (e : Expression) (pc pc2 : ℕ) → IntoDoes p call q deep f e Nowhere 0 0 pc pc2 → EffectDoes (evaluate p call e) pc pc2
  effect_does e pc pc2 de s now ws le fine =
      sim_map q 14 14 (Good p q f e Nowhere 0 0 pc2 s now ws) (λ v. StandsAt p call q deep f result pc2 s ws) (60 * s.clock) (60 * s.clock + 14) s.clock
      (here f pc now ws s) (evaluate p call e s) (omega arith) (omega arith) (de s now ws le fine)
      (λ v s2 z g. record { now = g.now; at = g.at; fine = g.known.fine; after = all_after _ s s2 g.known.after })

  pub no_effect : (pc pc2 : ℕ) → pc ≡ pc2 → EffectDoes (evaluate_or p call None) pc pc2
  no_effect pc pc2 h s now ws le fine =
      goes q 14 (StandsAt p call q deep f result pc2 s ws) (60 * s.clock + 14) s.clock 0 0 (here f pc now ws s) (here f pc now ws s) s
      (stays q (here f pc now ws s)) (omega arith) (omega arith)
      (record { now = now; at = ap (λ n. here f n now ws s) h; fine = fine; after = after_none writes_all s })

  module _ (rt rs : machine.State → Run ℤ) (rb : machine.State → Run Flow) (top next test end out again : ℕ) (dt : TestDoes rt test top end)
      (db : Runs p call q deep f result rb top next end next) (ds : EffectDoes rs next test) where
    -- after the body: the step, and the test again
    step_runs : (go : machine.State → Run Flow) (k : ℕ) (before : machine.State) (ws : List Call)
        → ((s : machine.State) (now : Scratch) → s.clock ≤ k → s.clock ≤ deep → Fine (world p q f ws) s → After (first_automatic q) writes_all before s
        → Sim q 14 (60 * s.clock + 15) s.clock (here f test now ws s) (FlowGood p call q deep f result end out again before ws) (go s))
        → (s : machine.State) (z : State) → s.clock ≤ k → s.clock ≤ deep → StandsAt p call q deep f result next before ws s z
        → Sim q 14 (60 * s.clock + 28) s.clock z (FlowGood p call q deep f result end out again before ws) (then_do (rs s) (λ w s. go s))
    step_runs go k before ws goes_on s z lek le g =
        let Good2 = FlowGood p call q deep f result end out again before ws in
        let last : ℤ → machine.State → Run Flow = λ w s. go s in
        sim_move q 14 Good2 (60 * s.clock + 28) s.clock z (here f next g.now ws s) (then_do (rs s) last) g.at
        (sim_then q 14 14 (λ v. StandsAt p call q deep f result test s ws) Good2 (60 * s.clock + 14) 15 (60 * s.clock + 28) s.clock (here f next g.now ws s)
        (rs s) last (omega arith) (omega arith) (ds s g.now ws le g.fine)
        (λ w s2 z2 lt g2. sim_move q 14 Good2 (60 * s2.clock + 15) s2.clock z2 (here f test g2.now ws s2) (go s2) g2.at
        (goes_on s2 g2.now (omega (arith, lt, lek)) (omega (arith, lt, le)) g2.fine (join_after before s s2 g.after g2.after))))

    after_runs : (go : machine.State → Run Flow) (k : ℕ) (before : machine.State) (ws : List Call)
        → ((s : machine.State) (now : Scratch) → s.clock ≤ k → s.clock ≤ deep → Fine (world p q f ws) s → After (first_automatic q) writes_all before s
        → Sim q 14 (60 * s.clock + 15) s.clock (here f test now ws s) (FlowGood p call q deep f result end out again before ws) (go s))
        → (flow : Flow) (s : machine.State) (z : State) → s.clock ≤ k → s.clock ≤ deep → FlowGood p call q deep f result next end next before ws flow s z
        → Sim q 14 (60 * s.clock + 28) s.clock z (FlowGood p call q deep f result end out again before ws)
        (after_body flow s (λ s. then_do (rs s) (λ w s. go s)))
    after_runs go k before ws goes_on Normal s z lek le g = step_runs go k before ws goes_on s z lek le g
    after_runs go k before ws goes_on Continued s z lek le g = step_runs go k before ws goes_on s z lek le g
    after_runs go k before ws goes_on Broken s z lek le g = there p call q deep f result end out again (60 * s.clock + 28) before ws Normal s z (omega arith) g
    after_runs go k before ws goes_on (Returned v) s z lek le g =
        there p call q deep f result end out again (60 * s.clock + 28) before ws (Returned v) s z (omega arith) g

    -- a turn, by its test
    turn_runs : (go : machine.State → Run Flow) (k : ℕ) (before : machine.State) (ws : List Call)
        → ((s : machine.State) (now : Scratch) → s.clock ≤ k → s.clock ≤ deep → Fine (world p q f ws) s → After (first_automatic q) writes_all before s
        → Sim q 14 (60 * s.clock + 15) s.clock (here f test now ws s) (FlowGood p call q deep f result end out again before ws) (go s))
        → (b : Bool) (s : machine.State) (now : Scratch) → s.clock ≤ suc k → s.clock ≤ deep → Fine (world p q f ws) s → After (first_automatic q) writes_all before s
        → Sim q 14 (60 * s.clock + 14) s.clock (here f (choose b top end) now ws s) (FlowGood p call q deep f result end out again before ws)
        (choose b (then_do (rb s) (λ flow s. after_body flow s (λ s. then_do (rs s) (λ w s. go s)))) (Goes Normal s))
    turn_runs go k before ws goes_on true s now lek le fine after =
        let Good2 = FlowGood p call q deep f result end out again before ws in
        let last : Flow → machine.State → Run Flow = λ flow s. after_body flow s (λ s. then_do (rs s) (λ w s. go s)) in
        sim_then q 14 14 (FlowGood p call q deep f result next end next s ws) Good2 (60 * s.clock) 28 (60 * s.clock + 14) s.clock (here f top now ws s) (rb s)
        last (omega arith) (omega arith) (db s now ws le fine)
        (λ flow s2 z lt g. after_runs go k before ws goes_on flow s2 z (omega (arith, lt, lek)) (omega (arith, lt, le))
        (flow_since p call q deep f result next end next before s ws after flow s2 z g))
    turn_runs go k before ws goes_on false s now lek le fine after =
        there p call q deep f result end out again (60 * s.clock + 14) before ws Normal s (here f end now ws s) (omega arith)
        (record { now = now; at = refl; fine = fine; after = after })

    turns_run : (k : ℕ) (before : machine.State) (ws : List Call) (s : machine.State) (now : Scratch) → s.clock ≤ k → s.clock ≤ deep
        → Fine (world p q f ws) s → After (first_automatic q) writes_all before s
        → Sim q 14 (60 * s.clock + 15) s.clock (here f test now ws s) (FlowGood p call q deep f result end out again before ws) (turns k rt rb rs s)
    turns_run zero before ws s now lek le fine after =
        record {
          j = 0;
          c = 0;
          u = here f test now ws s;
          reaches = stays q (here f test now ws s);
          within = omega arith;
          progress =
              omega (arith, lek);
          history = refl;
          input = refl;
        }
    turns_run (suc k) before ws s now lek le fine after =
        let Good2 = FlowGood p call q deep f result end out again before ws in
        let last : ℤ → machine.State → Run Flow =
        λ v s. choose (truth v) (then_do (rb s) (λ flow s. after_body flow s (λ s. then_do (rs s) (λ w s. turns k rt rb rs s)))) (Goes Normal s) in
        sim_then q 14 14 (TestGood top end s ws) Good2 (60 * s.clock + 15) 14 (60 * s.clock + 15) s.clock (here f test now ws s) (rt s) last (omega arith)
        (omega arith) (dt s now ws le fine)
        (λ v s2 z lt g. sim_move q 14 Good2 (60 * s2.clock + 14) s2.clock z (here f (choose (truth v) top end) g.now ws s2) (last v s2) g.at
        (turn_runs (turns k rt rb rs) k before ws (λ s3 now3 le3 led fine3 after3. turns_run k before ws s3 now3 le3 led fine3 after3) (truth v) s2 g.now
        (omega (arith, lt, lek)) (omega (arith, lt, le)) g.fine (join_after before s s2 after g.after)))

    -- `while` (6.8.5.1)
    pub while_runs : (pc : ℕ) → One (function_at q f).code (instruction.Jump test) pc top
        → Runs p call q deep f result (λ s. tick s (λ s. turns s.clock rt rb rs s)) pc end out again
    while_runs pc o s now ws le fine =
        let Good2 = FlowGood p call q deep f result end out again s ws in
        tick_ends q 14 Good2 (here f pc now ws s) s (λ s. turns s.clock rt rb rs s) refl refl
        (λ n lt.
        let s1 : machine.State = record s { clock = n } in
        sim_after q 14 Good2 (60 * n + 60) (suc n) (60 * n + 15) n 1 1 (here f pc now ws s) (here f test now ws s) (turns n rt rb rs s1)
        (does_jump q f test pc top now ws s o) (omega arith) (omega arith)
        (turns_run n s ws s1 now (let l : n ≤ n = omega arith in l) (omega (arith, le, lt)) (fine_later (world p q f ws) s n fine)
        (after_later writes_all s n)))

    -- `do` (6.8.5.2)
    pub do_runs : (pc : ℕ) → One (function_at q f).code instruction.Nothing pc top
        → Runs p call q deep f result (λ s. tick s (λ s. then_do (rb s) (λ flow s. after_body flow s (λ s. then_do (rs s) (λ w s. turns s.clock rt rb rs s)))))
        pc end out again
    do_runs pc o s now ws le fine =
        let Good2 = FlowGood p call q deep f result end out again s ws in
        let last : Flow → machine.State → Run Flow = λ flow s. after_body flow s (λ s. then_do (rs s) (λ w s. turns s.clock rt rb rs s)) in
        tick_in q 14 Good2 (here f pc now ws s) (here f top now ws s) s 0 (60 * s.clock) (λ s. then_do (rb s) last) (omega arith) refl refl
        (does_nothing q f pc top now ws s o)
        (λ n lt.
        let s1 : machine.State = record s { clock = n } in
        sim_then q 14 14 (FlowGood p call q deep f result next end next s1 ws) Good2 (60 * n) 28 (60 * n + 60 + 0) n (here f top now ws s) (rb s1) last
        (omega arith) (omega arith) (db s1 now ws (omega (arith, le, lt)) (fine_later (world p q f ws) s n fine))
        (λ flow s2 z lt2 g. after_runs (λ s. turns s.clock rt rb rs s) s2.clock s ws
        (λ s3 now3 le3 led fine3 after3. turns_run s3.clock s ws s3 now3 (let l : s3.clock ≤ s3.clock = omega arith in l) led fine3 after3) flow s2 z
        (let l : s2.clock ≤ s2.clock = omega arith in l) (omega (arith, le, lt, lt2))
        (flow_since p call q deep f result next end next s s1 ws (after_later writes_all s n) flow s2 z g)))

    -- `for` (6.8.5.3): declarations, which only go on, the first expression, the turns
    pub for_runs : (rd : machine.State → Run Flow) (r1 : machine.State → Run ℤ) (pc p1 p2 p3 : ℕ) → One (function_at q f).code instruction.Nothing pc p1
        → ((s : machine.State) (now : Scratch) (ws : List Call) → s.clock ≤ deep → Fine (world p q f ws) s
        → Sim q 14 (60 * s.clock + 14) s.clock (here f p1 now ws s) (λ flow. StandsAt p call q deep f result p2 s ws) (rd s))
        → EffectDoes r1 p2 p3 → One (function_at q f).code (instruction.Jump test) p3 top
        → Runs p call q deep f result (λ s. tick s (λ s. then_do (rd s) (λ flow s. then_do (r1 s) (λ v s. turns s.clock rt rb rs s)))) pc end out again
    for_runs rd r1 pc p1 p2 p3 o dd d1 i s now ws le fine =
        let Good2 = FlowGood p call q deep f result end out again s ws in
        tick_in q 14 Good2 (here f pc now ws s) (here f p1 now ws s) s 0 (60 * s.clock)
        (λ s. then_do (rd s) (λ flow s. then_do (r1 s) (λ v s. turns s.clock rt rb rs s))) (omega arith) refl refl (does_nothing q f pc p1 now ws s o)
        (λ n lt.
        let s1 : machine.State = record s { clock = n } in
        sim_then q 14 14 (λ flow. StandsAt p call q deep f result p2 s1 ws) Good2 (60 * n + 14) 60 (60 * n + 60 + 0) n (here f p1 now ws s) (rd s1)
        (λ flow s. then_do (r1 s) (λ v s. turns s.clock rt rb rs s)) (omega arith) (omega arith)
        (dd s1 now ws (omega (arith, le, lt)) (fine_later (world p q f ws) s n fine))
        (λ flow s2 z lt2 g. sim_move q 14 Good2 (60 * s2.clock + 60) s2.clock z (here f p2 g.now ws s2) (then_do (r1 s2) (λ v s. turns s.clock rt rb rs s)) g.at
        (sim_then q 14 14 (λ v. StandsAt p call q deep f result p3 s2 ws) Good2 (60 * s2.clock + 14) 60 (60 * s2.clock + 60) s2.clock (here f p2 g.now ws s2)
        (r1 s2) (λ v s. turns s.clock rt rb rs s) (omega arith) (omega arith)
        (d1 s2 g.now ws (omega (arith, le, lt, lt2)) g.fine)
        (λ v s3 z3 lt3 g3. sim_move q 14 Good2 (60 * s3.clock + 60) s3.clock z3 (here f p3 g3.now ws s3) (turns s3.clock rt rb rs s3) g3.at
        (sim_after q 14 Good2 (60 * s3.clock + 60) s3.clock (60 * s3.clock + 15) s3.clock 1 1 (here f p3 g3.now ws s3) (here f test g3.now ws s3)
        (turns s3.clock rt rb rs s3) (does_jump q f test p3 top g3.now ws s3 i) (omega arith) (omega arith)
        (turns_run s3.clock s ws s3 g3.now (let l : s3.clock ≤ s3.clock = omega arith in l) (omega (arith, le, lt, lt2, lt3)) g3.fine
        (join_after s s2 s3 (join_after s s1 s2 (after_later writes_all s n) g.after) g3.after)))))))
