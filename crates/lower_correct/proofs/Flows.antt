-- The code follows statements, if it follows their parts.
use Rattle.std.proofs.Common.{◌≡◌, ℕ, zero, suc, ◌+◌, ◌*◌, ◌≤◌, List, [], Option, Some, None, Bool, true, inl, inr, ℤ, refl, sym, ap, ◌∙◌, subst, arith}
use Rattle.std.specs.Prelude.{slice_get}
use Rattle.ctypes.specs.declared.types.IntType.{IntType}
use Rattle.ctypes.specs.Types.{IsValueOf, converted}
use Rattle.ctypes.proofs.Uses.{converted_fits}
use Rattle.typing_spec.specs.Types.{ObjectType}
use Rattle.typing_spec.specs.Program as typed
use Rattle.typing_spec.specs.Program.{Initialiser, Statement, Statements, Value as Expression}
use Rattle.csem.specs.Store.{Tree, put_in}
use Rattle.csem.specs.Machine as machine
use Rattle.csem.specs.Machine.{Run, Goes, Stops, then_do, choose, tick, stored}
use Rattle.csem.specs.Expressions.{Calling, evaluate}
use Rattle.csem.specs.Statements.{Flow, Normal, Broken, Continued, Returned, new_object, renewed, all_renewed, next_after}
use Rattle.tac_code.specs.declared.code.Target.TheVariants as target
use Rattle.tac_code.specs.declared.code.Instruction.TheVariants as instruction
use Rattle.tac_code.specs.Code.{Program, function_at}
use Rattle.tac_code.specs.Run.{Values, Call, State, running, word, word_for, forgotten}
use Rattle.lower_correct.specs.Values.{Nowhere}
use Rattle.lower_correct.specs.Code.{One}
use Rattle.lower_correct.specs.Bodies.{Leaves}
use Rattle.lower_correct.proofs.Words.{differ}
use Rattle.lower_correct.proofs.Steps.{stays, GoesTo, goes, from, Sim, sim_then, sim_map, sim_move, tick_in, tick_ends}
use Rattle.lower_correct.proofs.Standing.{Scratch, here, does_nothing, does_jump, world, first_automatic}
use Rattle.lower_correct.proofs.Shapes.{filled_has}
use Rattle.lower_correct.proofs.Stores.{World, all_types, ObjectFits, Fine, After, after_on, after_none, after_put, put_here, put_elsewhere, put_length, behind, nat_cases, tree_is, is_apart, own_apart, fine_later, after_later, after_since}
use Rattle.lower_correct.proofs.Goods.{Good}
use Rattle.lower_correct.proofs.Leaves.{IntoDoes, Converted, ConvertsDoes}

abbrev pub writes_all : ℕ → Bool
writes_all x = true

-- ---- objects that become indeterminate (6.2.4p6)

fine_renewed : (W : World) (x : ℕ) (s : machine.State) → Fine W s → Fine W (renewed W.own x s)
fine_renewed W x s h = record {
  few = h.few;
  low = h.low;
  base = h.base;
  size = put_length s.store (s.base + x) [] new ∙ h.size;
  fits = fits;
  literals = λ n text e. put_elsewhere s.store (s.base + x) n [] new (is_apart W.texts n text (s.base + x) e (own_apart W s x h)) ∙ h.literals n text e;
  arrays = h.arrays;
  input = h.input;
}
  where
    new : Tree
    new = new_object (slice_get W.own x)

    own_there : (o : ObjectType) → slice_get (all_types W) (s.base + x) ≡ Some o → slice_get W.own x ≡ Some o
    own_there o e = sym (behind W.outer W.own x) ∙ (ap (λ n. slice_get (all_types W) (n + x)) (sym h.base) ∙ e)

    new_fits : (o : ObjectType) → slice_get W.own x ≡ Some o → ObjectFits o (Some new)
    new_fits o e = subst (λ y. ObjectFits o (Some (new_object y))) (sym e) (filled_has o.element None o.lengths tt)

    fits : (n : ℕ) (o : ObjectType) → slice_get (all_types W) n ≡ Some o → ObjectFits o (slice_get (put_in s.store (s.base + x) [] new) n)
    fits n o e = nat_cases n (s.base + x)
        (λ m.
        let e2 : slice_get (all_types W) (s.base + x) ≡ Some o = ap (slice_get (all_types W)) (sym m) ∙ e in
        let old = tree_is o (slice_get s.store (s.base + x)) (h.fits (s.base + x) o e2) in
        subst (λ k. ObjectFits o (slice_get (put_in s.store (s.base + x) [] new) k)) (sym m)
        (subst (λ z. ObjectFits o z) (sym (put_here s.store (s.base + x) [] old.0 new old.1)) (new_fits o (own_there o e2))))
        (λ d. subst (λ z. ObjectFits o z) (sym (put_elsewhere s.store (s.base + x) n [] new d)) (h.fits n o e))

after_renewed : {first : ℕ} (objects : List ObjectType) (x : ℕ) (s : machine.State) → After first writes_all s (renewed objects x s)
after_renewed objects x s = after_put writes_all x (new_object (slice_get objects x)) s refl

-- the code forgets each object that the abstract machine makes indeterminate
pub record Forgets (W : World) (n k : ℕ) (s : machine.State) : Type 0 where
  pub same : (record s { store = forgotten W.own s.base n k s.store }) ≡ all_renewed W.own n k s
  pub fine : Fine W (all_renewed W.own n k s)
  pub after : After W.first writes_all s (all_renewed W.own n k s)
  pub clock : (all_renewed W.own n k s).clock ≡ s.clock

pub all_forgotten : (W : World) (n k : ℕ) (s : machine.State) → Fine W s → Forgets W n k s
all_forgotten W n zero s fine = record { same = refl; fine = fine; after = after_none writes_all s; clock = refl }
all_forgotten W n (suc k) s fine =
    let h = all_forgotten W (suc n) k (renewed W.own n s) (fine_renewed W n s fine) in
    record {
      same = h.same;
      fine = h.fine;
      after = after_on writes_all writes_all writes_all s (renewed W.own n s) (all_renewed W.own (suc n) k (renewed W.own n s)) (λ x e. e) (λ x e. e)
          (after_renewed W.own n s) h.after;
      clock = h.clock;
    }

module _ (p : typed.Program) (call : Calling) (q : Program) (deep f : ℕ) (result : Option IntType) where
  -- ---- where a statement leaves the code

  -- it is at pc, whatever its temporaries and slots
  pub record StandsAt (pc : ℕ) (before : machine.State) (ws : List Call) (s : machine.State) (z : State) : Type 0 where
    pub now : Scratch
    pub at : z ≡ here f pc now ws s
    pub fine : Fine (world p q f ws) s
    pub after : After (first_automatic q) writes_all before s

  -- a call's value, where it has one
  abbrev pub Returning : Option ℤ → Values → Type 0
  Returning None m = result ≡ None
  Returning (Some v) m = (u : IntType) × (result ≡ Some u) × IsValueOf u v × (m 0 ≡ Some (word (word_for v)))

  -- it is about to return
  pub record AboutToReturn (o : Option ℤ) (before : machine.State) (ws : List Call) (s : machine.State) (z : State) : Type 0 where
    pub pc : ℕ
    pub pc2 : ℕ
    pub now : Scratch
    pub at : z ≡ here f pc now ws s
    pub leave : One (function_at q f).code instruction.Return pc pc2
    pub gives : Returning o now.temporaries
    pub fine : Fine (world p q f ws) s
    pub after : After (first_automatic q) writes_all before s

  abbrev pub FlowGood : (end out again : ℕ) → machine.State → List Call → Flow → machine.State → State → Type 0
  FlowGood end out again before ws Normal = StandsAt end before ws
  FlowGood end out again before ws Broken = StandsAt out before ws
  FlowGood end out again before ws Continued = StandsAt again before ws
  FlowGood end out again before ws (Returned v) = AboutToReturn v before ws

  abbrev pub Runs : (machine.State → Run Flow) → (pc end out again : ℕ) → Type 0
  Runs r pc end out again = (s : machine.State) (now : Scratch) (ws : List Call) → s.clock ≤ deep → Fine (world p q f ws) s
      → Sim q 14 (60 * s.clock) s.clock (here f pc now ws s) (FlowGood end out again s ws) (r s)

  -- lists of statements, which may be empty
  abbrev pub Lists : (machine.State → Run Flow) → (pc end out again : ℕ) → Type 0
  Lists r pc end out again = (s : machine.State) (now : Scratch) (ws : List Call) → s.clock ≤ deep → Fine (world p q f ws) s
      → Sim q 14 (60 * s.clock + 14) s.clock (here f pc now ws s) (FlowGood end out again s ws) (r s)

  -- the same from an earlier state
  pub flow_since : (end out again : ℕ) (a b : machine.State) (ws : List Call) → After (first_automatic q) writes_all a b → (flow : Flow) (s : machine.State) (z : State)
      → FlowGood end out again b ws flow s z → FlowGood end out again a ws flow s z
  flow_since end out again a b ws h Normal s z g =
      record { now = g.now; at = g.at; fine = g.fine; after = after_on writes_all writes_all writes_all a b s (λ x e. e) (λ x e. e) h g.after }
  flow_since end out again a b ws h Broken s z g =
      record { now = g.now; at = g.at; fine = g.fine; after = after_on writes_all writes_all writes_all a b s (λ x e. e) (λ x e. e) h g.after }
  flow_since end out again a b ws h Continued s z g =
      record { now = g.now; at = g.at; fine = g.fine; after = after_on writes_all writes_all writes_all a b s (λ x e. e) (λ x e. e) h g.after }
  flow_since end out again a b ws h (Returned v) s z g =
      record {
        pc = g.pc;
        pc2 = g.pc2;
        now = g.now;
        at = g.at;
        leave = g.leave;
        gives = g.gives;
        fine = g.fine;
        after =
            after_on writes_all writes_all writes_all a b s (λ x e. e) (λ x e. e) h g.after;
      }

  -- the precise account of what a value leaves implies the weakest one
  pub all_after : (w : ℕ → Bool) (a b : machine.State) → After (first_automatic q) w a b → After (first_automatic q) writes_all a b
  all_after w a b h = record { base = h.base; arrays = h.arrays; below = h.below; still = λ x e. absurd (differ (sym e)) }

  -- no step
  pub there : (end out again hi : ℕ) (before : machine.State) (ws : List Call) (flow : Flow) (s : machine.State) (z : State) → 60 * s.clock + 14 ≤ hi
      → FlowGood end out again before ws flow s z
      → GoesTo q 14 hi s.clock z (FlowGood end out again before ws flow) s
  there end out again hi before ws flow s z h g =
      goes q 14 (FlowGood end out again before ws flow) hi s.clock 0 0 z z s (stays q z) (omega (arith, h)) (omega arith) g

  -- ---- statements that do nothing, and jumps (6.8.1, 6.8.3, 6.8.6)

  pub nothing_runs : (pc end out again : ℕ) → One (function_at q f).code instruction.Nothing pc end → Runs (λ s. tick s (λ s. Goes Normal s)) pc end out again
  nothing_runs pc end out again o s now ws le fine =
      tick_in q 14 (FlowGood end out again s ws) (here f pc now ws s) (here f end now ws s) s 0 (60 * s.clock) (λ s. Goes Normal s) (omega arith) refl refl
      (does_nothing q f pc end now ws s o)
      (λ n lt. there end out again (60 * n + 60 + 0) s ws Normal (record s { clock = n }) (here f end now ws s) (omega arith)
      (record { now = now; at = refl; fine = fine_later (world p q f ws) s n fine; after = after_later writes_all s n }))

  jump_ends : (to pc pc2 n : ℕ) (now : Scratch) (ws : List Call) (s : machine.State) (Good2 : machine.State → State → Type 0)
      → One (function_at q f).code (instruction.Jump to) pc pc2
      → Good2 (record s { clock = n }) (here f to now ws s) → GoesTo q 14 (60 * n + 60) (suc n) (here f pc now ws s) Good2 (record s { clock = n })
  jump_ends to pc pc2 n now ws s Good2 o g =
      goes q 14 Good2 (60 * n + 60) (suc n) 1 1 (here f pc now ws s) (here f to now ws s) (record s { clock = n }) (does_jump q f to pc pc2 now ws s o)
      (omega arith) (omega arith) g

  pub break_runs : (pc end out again : ℕ) → One (function_at q f).code (instruction.Jump out) pc end → Runs (λ s. tick s (λ s. Goes Broken s)) pc end out again
  break_runs pc end out again o s now ws le fine =
      tick_ends q 14 (FlowGood end out again s ws) (here f pc now ws s) s (λ s. Goes Broken s) refl refl
      (λ n lt. jump_ends out pc end n now ws s (FlowGood end out again s ws Broken) o
      (record { now = now; at = refl; fine = fine_later (world p q f ws) s n fine; after = after_later writes_all s n }))

  pub continue_runs : (pc end out again : ℕ) → One (function_at q f).code (instruction.Jump again) pc end
      → Runs (λ s. tick s (λ s. Goes Continued s)) pc end out again
  continue_runs pc end out again o s now ws le fine =
      tick_ends q 14 (FlowGood end out again s ws) (here f pc now ws s) s (λ s. Goes Continued s) refl refl
      (λ n lt. jump_ends again pc end n now ws s (FlowGood end out again s ws Continued) o
      (record { now = now; at = refl; fine = fine_later (world p q f ws) s n fine; after = after_later writes_all s n }))

  -- the one Return of the function is next, or jumped to
  leave_ends : (o : Option ℤ) (back last pc pc2 end out again hi : ℕ) (now : Scratch) (before : machine.State) (ws : List Call) (s : machine.State) (z : State)
      → 60 * s.clock + 15 ≤ hi → One (function_at q f).code instruction.Return back last → Leaves (function_at q f).code back pc pc2
      → z ≡ here f pc now ws s → Returning o now.temporaries → Fine (world p q f ws) s → After (first_automatic q) writes_all before s
      → GoesTo q 14 hi s.clock z (FlowGood end out again before ws (Returned o)) s
  leave_ends o back last pc pc2 end out again hi now before ws s z h r (inl next) ez gives fine after =
      goes q 14 (FlowGood end out again before ws (Returned o)) hi s.clock 0 0 z z s (stays q z) (omega (arith, h)) (omega arith)
      (record {
        pc = back;
        pc2 = last;
        now = now;
        at = ez ∙ ap (λ n. here f n now ws s) next.1;
        leave = r;
        gives = gives;
        fine = fine;
        after = after;
      })
  leave_ends o back last pc pc2 end out again hi now before ws s z h r (inr jump) ez gives fine after =
      let u = here f back now ws s in
      goes q 14 (FlowGood end out again before ws (Returned o)) hi s.clock 1 1 z u s
      (from q z (here f pc now ws s) 1 1 (running u) ez (does_jump q f back pc pc2 now ws s jump)) (omega (arith, h)) (omega arith)
      (record { pc = back; pc2 = last; now = now; at = refl; leave = r; gives = gives; fine = fine; after = after })

  pub return_nothing_runs : (back last pc p1 end out again : ℕ) → result ≡ None → One (function_at q f).code instruction.Return back last
      → One (function_at q f).code instruction.Nothing pc p1 → Leaves (function_at q f).code back p1 end
      → Runs (λ s. tick s (λ s. Goes (Returned None) s)) pc end out again
  return_nothing_runs back last pc p1 end out again hr r o i s now ws le fine =
      tick_in q 14 (FlowGood end out again s ws) (here f pc now ws s) (here f p1 now ws s) s 0 (60 * s.clock) (λ s. Goes (Returned None) s) (omega arith) refl
      refl (does_nothing q f pc p1 now ws s o)
      (λ n lt. leave_ends None back last p1 end end out again (60 * n + 60 + 0) now s ws (record s { clock = n }) (here f p1 now ws s) (omega arith) r i refl hr
      (fine_later (world p q f ws) s n fine) (after_later writes_all s n))

  pub return_value_runs : (u : IntType) (e : Expression) (back last pc p1 p2 end out again : ℕ) → result ≡ Some u
      → One (function_at q f).code instruction.Return back last
      → One (function_at q f).code instruction.Nothing pc p1 → ConvertsDoes p call q deep f e u (target.Temporary 0) 0 0 p1 p2
      → Leaves (function_at q f).code back p2 end
      → Runs (λ s. tick s (λ s. then_do (evaluate p call e s) (λ v s. Goes (Returned (Some (converted u v))) s))) pc end out again
  return_value_runs u e back last pc p1 p2 end out again hr r o de i s now ws le fine =
      let last_step : ℤ → machine.State → Run Flow = λ v s. Goes (Returned (Some (converted u v))) s in
      tick_in q 14 (FlowGood end out again s ws) (here f pc now ws s) (here f p1 now ws s) s 0 (60 * s.clock) (λ s. then_do (evaluate p call e s) last_step)
      (omega arith) refl refl (does_nothing q f pc p1 now ws s o)
      (λ n lt.
      let s1 : machine.State = record s { clock = n } in
      sim_then q 14 14 (Converted p call q deep f e u (target.Temporary 0) 0 0 p2 s1 now ws) (FlowGood end out again s ws) (60 * n + 8) 66 (60 * n + 60 + 0) n
      (here f p1 now ws s) (evaluate p call e s1) last_step (omega arith) (omega arith)
      (de s1 now ws (omega (arith, le, lt)) (fine_later (world p q f ws) s n fine))
      (λ v s2 z lt2 c. leave_ends (Some (converted u v)) back last p2 end end out again (60 * s2.clock + 66) c.now s ws s2 z (omega arith) r i c.at
      (u, hr, converted_fits u v, c.has) c.known.fine
      (all_after _ s s2 (after_since _ s s2 n c.known.after))))

  -- ---- expressions (6.8.3), conditions (6.8.4.1)

  pub evaluate_runs : (e : Expression) (pc p1 end out again : ℕ) → One (function_at q f).code instruction.Nothing pc p1
      → IntoDoes p call q deep f e Nowhere 0 0 p1 end
      → Runs (λ s. tick s (λ s. then_do (evaluate p call e s) (λ v s. Goes Normal s))) pc end out again
  evaluate_runs e pc p1 end out again o de s now ws le fine =
      let last : ℤ → machine.State → Run Flow = λ v s. Goes Normal s in
      tick_in q 14 (FlowGood end out again s ws) (here f pc now ws s) (here f p1 now ws s) s 0 (60 * s.clock) (λ s. then_do (evaluate p call e s) last)
      (omega arith) refl refl (does_nothing q f pc p1 now ws s o)
      (λ n lt.
      let s1 : machine.State = record s { clock = n } in
      sim_then q 14 14 (Good p q f e Nowhere 0 0 end s1 now ws) (FlowGood end out again s ws) (60 * n) 74 (60 * n + 60 + 0) n (here f p1 now ws s)
      (evaluate p call e s1) last (omega arith) (omega arith)
      (de s1 now ws (omega (arith, le, lt)) (fine_later (world p q f ws) s n fine))
      (λ v s2 z lt2 g. there end out again (60 * s2.clock + 74) s ws Normal s2 z (omega arith)
      (record { now = g.now; at = g.at; fine = g.known.fine; after = all_after _ s s2 (after_since _ s s2 n g.known.after) })))

  -- one after another (6.8.2)
  pub next_runs : (rb : machine.State → Run Flow) (p1 end out again hi : ℕ) (before : machine.State) (ws : List Call) → Lists rb p1 end out again
      → (flow : Flow) (s : machine.State) (z : State) → s.clock ≤ deep → 60 * s.clock + 14 ≤ hi
      → FlowGood p1 out again before ws flow s z → Sim q 14 hi s.clock z (FlowGood end out again before ws) (next_after flow s rb)
  next_runs rb p1 end out again hi before ws db Normal s z le h g =
      sim_move q 14 (FlowGood end out again before ws) hi s.clock z (here f p1 g.now ws s) (rb s) g.at
      (sim_map q 14 14 (FlowGood end out again s ws) (FlowGood end out again before ws) (60 * s.clock + 14) hi s.clock (here f p1 g.now ws s) (rb s)
      (omega (arith, h)) (omega (arith, h)) (db s g.now ws le g.fine)
      (λ flow s2 z2 g2. flow_since end out again before s ws g.after flow s2 z2 g2))
  next_runs rb p1 end out again hi before ws db Broken s z le h g = there end out again hi before ws Broken s z h g
  next_runs rb p1 end out again hi before ws db Continued s z le h g = there end out again hi before ws Continued s z h g
  next_runs rb p1 end out again hi before ws db (Returned v) s z le h g = there end out again hi before ws (Returned v) s z h g

  pub both_run : (ra rb : machine.State → Run Flow) (pc p1 end out again : ℕ) → Runs ra pc p1 out again → Lists rb p1 end out again
      → Lists (λ s. then_do (ra s) (λ flow s. next_after flow s rb)) pc end out again
  both_run ra rb pc p1 end out again da db s now ws le fine =
      sim_then q 14 14 (FlowGood p1 out again s ws) (FlowGood end out again s ws) (60 * s.clock) 14 (60 * s.clock + 14) s.clock (here f pc now ws s) (ra s)
      (λ flow s. next_after flow s rb) (omega arith) (omega arith) (da s now ws le fine)
      (λ flow s2 z lt g. next_runs rb p1 end out again (60 * s2.clock + 14) s ws db flow s2 z (omega (arith, le, lt)) (omega arith) g)

  pub no_list : (pc end out again : ℕ) → pc ≡ end → Lists (λ s. Goes Normal s) pc end out again
  no_list pc end out again h s now ws le fine =
      there end out again (60 * s.clock + 14) s ws Normal s (here f pc now ws s) (omega arith)
      (record { now = now; at = ap (λ n. here f n now ws s) h; fine = fine; after = after_none writes_all s })
