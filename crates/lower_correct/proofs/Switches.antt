-- The code follows `switch` (ISO/IEC 9899:2011 6.8.4.2), if it follows its parts.
use Rattle.std.proofs.Common.{◌≡◌, ℕ, zero, suc, ◌+◌, ◌*◌, ◌<◌, ◌≤◌, List, [], ◌∷◌, Option, Some, None, Bool, true, false, ◌&&◌, ℤ, refl, sym, ap, ◌∙◌, subst, arith}
use Rattle.std.specs.Prelude.{nat_le, nat_lt, ◌-◌, ◌==◌, ◌++◌, int_le, length, map, slice_get, if◌then◌else◌}
use Rattle.std.proofs.lemmas.Bool.Decides.{nat_tests}
use Rattle.ctypes.specs.declared.types.IntType.{IntType}
use Rattle.ctypes.specs.Types.{IsValueOf, converted}
use Rattle.ctypes.proofs.Uses.{converted_keeps}
use Rattle.typing_spec.specs.Types.{ObjectType}
use Rattle.typing_spec.specs.Program as typed
use Rattle.typing_spec.specs.Program.{Initialiser, Statement, Statements, Value as Expression}
use Rattle.csem.specs.Machine as machine
use Rattle.csem.specs.Machine.{Run, Goes, Stops, then_do, choose, tick, stored}
use Rattle.csem.specs.Expressions.{Calling, evaluate}
use Rattle.csem.specs.Statements.{Flow, Normal, Broken, Continued, Returned, new_object, renewed, all_renewed, after_switch, label_for, same_value}
use Rattle.tac_code.specs.declared.code.Operand.{Operand}
use Rattle.tac_code.specs.declared.code.Operand.TheVariants as operand
use Rattle.tac_code.specs.declared.code.Instruction.TheVariants as instruction
use Rattle.tac_code.specs.Code.{Program, function_at}
use Rattle.tac_code.specs.Run.{Call, State, running, word_for, forgotten}
use Rattle.lower_correct.specs.Values.{extent, rests_in, constant_of, waits_in, mode_of}
use Rattle.lower_correct.specs.Code.{One}
use Rattle.lower_correct.specs.Bodies.{is_within, has_objects, forgets, Tests}
use Rattle.lower_correct.proofs.Words.{differ, Ranged, ranged, is_value, left_true, right_true}
use Rattle.lower_correct.proofs.Steps.{Reaches, stays, goes, Sim, sim_after, sim_then, sim_move, sim_tick, tick_in}
use Rattle.lower_correct.proofs.Standing.{Scratch, here, slots_only, Holds, does_nothing, does_jump, does_branch, does_forget, world, first_automatic}
use Rattle.lower_correct.proofs.Operations.{equal_words}
use Rattle.tac_code.specs.declared.code.Reading.TheVariants as reading
use Rattle.tac_code.specs.declared.code.Comparison.TheVariants as comparison
use Rattle.lower_wf.specs.Asked.{is_wide, label_fits}
use Rattle.std.specs.List.{list_all}
use Rattle.lower_correct.proofs.Stores.{After, after_on, after_none, after_put, fine_later, after_later, after_since}
use Rattle.lower_correct.proofs.Goods.{Keeps, keeps_all, Good, held, stays_there}
use Rattle.lower_correct.proofs.Leaves.{IntoDoes}
use Rattle.lower_correct.proofs.Flows.{writes_all, all_forgotten, FlowGood, Runs, Lists, flow_since, there}

-- ---- objects outside a switch's block

after_all : {first : ℕ} (w : ℕ → Bool) (objects : List ObjectType) (n k : ℕ) (s : machine.State) → ((x : ℕ) → n ≤ x → x < n + k → w x ≡ true)
    → After first w s (all_renewed objects n k s)
after_all w objects n zero s h = after_none w s
after_all w objects n (suc k) s h =
    after_on w w w s (renewed objects n s) (all_renewed objects (suc n) k (renewed objects n s)) (λ x e. e) (λ x e. e)
    (after_put w n (new_object (slice_get objects n)) s (h n (omega arith) (omega arith)))
    (after_all w objects (suc n) k (renewed objects n s) (λ x lo hi. h x (omega (arith, lo)) (omega (arith, hi))))

within_is : (n k x : ℕ) → n ≤ x → x < n + k → is_within n k x ≡ true
within_is n k x lo hi = let a : nat_le n x ≡ true = grind (arith, nat_tests) in let b : nat_lt x (n + k) ≡ true =
    grind (arith, nat_tests) in ap (λ z. z && nat_lt x (n + k)) a ∙ b

-- ---- labels and their places

abbrev pub IsPlace : List ℕ → (end : ℕ) → Option ℕ → ℕ → Type 0
IsPlace places end None at = at ≡ end
IsPlace places end (Some n) at = slice_get places n ≡ Some at

-- those of one statement, and those after it
pub place_first : (ls : List (Option ℤ)) (rest : List ℕ) (pc n at : ℕ) → nat_lt n (length ls) ≡ true → slice_get (map (λ l. pc) ls ++ rest) n ≡ Some at
    → at ≡ pc
place_first [] rest pc n at h e = absurd (differ (let z : false ≡ true = grind (arith, nat_tests, h) in z))
place_first (l ∷ ls) rest pc zero at h e = cc
place_first (l ∷ ls) rest pc (suc n) at h e = place_first ls rest pc n at (grind (arith, nat_tests, h)) e

pub place_later : (ls : List (Option ℤ)) (rest : List ℕ) (pc n at : ℕ) → nat_lt n (length ls) ≡ false → slice_get (map (λ l. pc) ls ++ rest) n ≡ Some at
    → slice_get rest (n - length ls) ≡ Some at
place_later [] rest pc n at h e = let z : n ≡ n - 0 = omega arith in subst (λ m. slice_get rest m ≡ Some at) z e
place_later (l ∷ ls) rest pc zero at h e = absurd (differ (let z : false ≡ true = grind (arith, nat_tests, h) in z))
place_later (l ∷ ls) rest pc (suc n) at h e =
    let z : n - length ls ≡ suc n - length (l ∷ ls) =
    omega arith in subst (λ m. slice_get rest m ≡ Some at) z (place_later ls rest pc n at (grind (arith, nat_tests, h)) e)

and_swaps : (a b : Bool) → (a && b) ≡ (b && a)
and_swaps true true = refl
and_swaps true false = refl
and_swaps false true = refl
and_swaps false false = refl

module _ (p : typed.Program) (call : Calling) (q : Program) (deep f : ℕ) (result : Option IntType) where
  all_after : (w : ℕ → Bool) (a b : machine.State) → After (first_automatic q) w a b → After (first_automatic q) writes_all a b
  all_after w a b h = record { base = h.base; arrays = h.arrays; below = h.below; still = λ x e. absurd (differ (sym e)) }

  -- after the tests: at the place of the label, in the same state but for the clock
  pub record Found (places : List ℕ) (end : ℕ) (now : Scratch) (ws : List Call) (before : machine.State) (label : Option ℕ) (s : machine.State) (z : State) :
      Type 0 where
    pub to : ℕ
    pub at : z ≡ here f to now ws before
    pub place : IsPlace places end label to
    pub k : ℕ
    pub same : s ≡ record before { clock = k }

  -- a case's test
  case_test : (u : IntType) (v c : ℤ) → is_wide u ≡ true → Ranged v → IsValueOf u c → (word_for v == word_for c) ≡ same_value c (converted u v)
  case_test u v c hu r hc =
      equal_words p q f u v c hu r (ranged u c hc)
      ∙ (ap (λ z. int_le (converted u v) z && int_le z (converted u v)) (converted_keeps u c hc)
      ∙ and_swaps (int_le (converted u v) c) (int_le c (converted u v)))

  if_choose : {A : Type 0} (b : Bool) (x y : A) → (if b then x else y) ≡ choose b x y
  if_choose true x y = refl
  if_choose false x y = refl

  by_test : (all : List ℕ) (end : ℕ) (v c : ℤ) (o : Operand) (x n pc p1 k : ℕ) (now : Scratch) (ws : List Call) (before s2 : machine.State)
      (rest : Run (Option ℕ)) → s2 ≡ record before { clock = k }
      → One (function_at q f).code (instruction.Branch comparison.Equal reading.Signed o (operand.Constant (word_for c)) x) pc p1
      → Holds q f o (word_for v) now before → slice_get all n ≡ Some x
      → Sim q 14 (60 * s2.clock + 15) s2.clock (here f p1 now ws before) (Found all end now ws before) rest → (b : Bool) → (word_for v == word_for c) ≡ b
      → Sim q 14 (60 * k + 60 + 15) (suc k) (here f pc now ws before) (Found all end now ws before) (choose b (Goes (Some n) s2) rest)
  by_test all end v c o x n pc p1 k now ws before s2 rest e2 i ho place l true eb =
      let ck : s2.clock ≡ k = ap (λ y. y.clock) e2 in
      goes q 14 (Found all end now ws before (Some n)) (60 * k + 60 + 15) (suc k) 1 8 (here f pc now ws before) (here f x now ws before) s2
      (does_branch q f comparison.Equal reading.Signed o (operand.Constant (word_for c)) x (word_for v) (word_for c) true pc p1 now ws before i ho refl eb)
      (omega (arith, ck)) (omega (arith, ck))
      (record { to = x; at = refl; place = place; k = k; same = e2 })
  by_test all end v c o x n pc p1 k now ws before s2 rest e2 i ho place l false eb =
      let ck : s2.clock ≡ k = ap (λ y. y.clock) e2 in
      sim_after q 14 (Found all end now ws before) (60 * k + 60 + 15) (suc k) (60 * s2.clock + 15) s2.clock 1 8 (here f pc now ws before)
      (here f p1 now ws before) rest
      (does_branch q f comparison.Equal reading.Signed o (operand.Constant (word_for c)) x (word_for v) (word_for c) false pc p1 now ws before i ho refl eb)
      (omega (arith, ck)) (omega (arith, ck)) l

  tests_do : (u : IntType) (v : ℤ) (o : Operand) (all : List ℕ) (end : ℕ) (hu : is_wide u ≡ true) (r : Ranged v) (labels : List (Option ℤ)) (places : List ℕ)
      (n : ℕ) (default : Option ℕ) (dp pc pc2 : ℕ) (now : Scratch) (ws : List Call) (before s : machine.State) (m : ℕ)
      → s ≡ record before { clock = m } → list_all (label_fits u) labels ≡ true → Holds q f o (word_for v) now before
      → ((i : ℕ) → slice_get places i ≡ slice_get all (n + i)) → IsPlace all end default dp
      → Tests (function_at q f).code o labels places dp pc pc2
      → Sim q 14 (60 * s.clock + 15) s.clock (here f pc now ws before) (Found all end now ws before) (label_for (converted u v) labels n default s)
  tests_do u v o all end hu r [] places n default dp pc pc2 now ws before s m es hl ho hp hd i =
      goes q 14 (Found all end now ws before default) (60 * s.clock + 15) s.clock 1 1 (here f pc now ws before) (here f dp now ws before) s
      (does_jump q f dp pc pc2 now ws before i) (omega arith) (omega arith)
      (record { to = dp; at = refl; place = hd; k = m; same = es })
  tests_do u v o all end hu r (l ∷ labels) [] n default dp pc pc2 now ws before s m es hl ho hp hd i = absurd i
  tests_do u v o all end hu r (None ∷ labels) (x ∷ places) n default dp pc pc2 now ws before s m es hl ho hp hd i =
      tests_do u v o all end hu r labels places (suc n) (Some n) x pc pc2 now ws before s m es hl ho
      (λ j. hp (suc j) ∙ ap (slice_get all) (let z : n + suc j ≡ suc n + j = omega arith in z))
      (ap (slice_get all) (let z : n ≡ n + 0 = omega arith in z) ∙ sym (hp 0)) i
  tests_do u v o all end hu r (Some c ∷ labels) (x ∷ places) n default dp pc pc2 now ws before s m es hl ho hp hd i =
      let here_now = here f pc now ws before in
      let hc = is_value u c (left_true (label_fits u (Some c)) (list_all (label_fits u) labels) hl) in
      sim_tick q 14 (Found all end now ws before) here_now s 15
      (λ s. choose (same_value c (converted u v)) (Goes (Some n) s) (label_for (converted u v) labels (suc n) default s)) (ap (λ y. y.history) (sym es))
      (ap (λ y. y.input) (sym es))
      (λ k lt.
      let s2 : machine.State = record s { clock = k } in
      let later : machine.State → machine.State = λ y. record y { clock = k } in
      let e2 : s2 ≡ record before { clock = k } = ap later es in
      by_test all end v c o x n pc i.0 k now ws before s2 (label_for (converted u v) labels (suc n) default s2) e2 i.1 ho
      (ap (slice_get all) (let z : n ≡ n + 0 = omega arith in z) ∙ sym (hp 0))
      (tests_do u v o all end hu r labels places (suc n) default dp i.0 pc2 now ws before s2 k e2
      (right_true (label_fits u (Some c)) (list_all (label_fits u) labels) hl) ho
      (λ j. hp (suc j) ∙ ap (slice_get all) (let z : n + suc j ≡ suc n + j = omega arith in z)) hd i.2)
      (same_value c (converted u v)) (case_test u v c hu r hc))

  -- its objects are forgotten, which leaves the slots, and the temporaries if there are none
  record Forgotten (first count pc pc2 : ℕ) (now : Scratch) (ws : List Call) (s : machine.State) : Type 0 where
    pub now2 : Scratch
    pub reaches : Reaches q (here f pc now ws s) 1 0 (running (here f pc2 now2 ws (record s { store = forgotten (function_at q f).objects s.base first count s.store })))
    pub keeps : (t k : ℕ) → Keeps (has_objects count) t k now now2

  forgets_them : (first count pc pc2 : ℕ) (now : Scratch) (ws : List Call) (s : machine.State) → One (function_at q f).code (forgets first count) pc pc2
      → Forgotten first count pc pc2 now ws s
  forgets_them first zero pc pc2 now ws s o = record { now2 = now; reaches = does_nothing q f pc pc2 now ws s o; keeps = λ t k. keeps_all false t k now }
  forgets_them first (suc n) pc pc2 now ws s o = record {
    now2 = slots_only now;
    reaches = does_forget q f first (suc n) pc pc2 now ws s o;
    keeps = λ t k. record { temporaries = λ e i lt. absurd (differ (sym e)); kept = λ i lt. refl };
  }

  -- how a switch is left
  leave_switch : (end again hi : ℕ) (out : ℕ) (before : machine.State) (ws : List Call) (flow : Flow) (s : machine.State) (z : State) → 60 * s.clock + 14 ≤ hi
      → FlowGood p call q deep f result end end again before ws flow s z
      → Sim q 14 hi s.clock z (FlowGood p call q deep f result end out again before ws) (after_switch flow s)
  leave_switch end again hi out before ws Normal s z h g = there p call q deep f result end out again hi before ws Normal s z h g
  leave_switch end again hi out before ws Broken s z h g = there p call q deep f result end out again hi before ws Normal s z h g
  leave_switch end again hi out before ws Continued s z h g = there p call q deep f result end out again hi before ws Continued s z h g
  leave_switch end again hi out before ws (Returned v) s z h g = there p call q deep f result end out again hi before ws (Returned v) s z h g

  pub switch_runs : (u : IntType) (e : Expression) (first count : ℕ) (labels : List (Option ℤ)) (places : List ℕ) (rf : Option ℕ → machine.State → Run Flow)
      (pc p1 p2 p3 p4 end out again : ℕ) → is_wide u ≡ true → list_all (label_fits u) labels ≡ true
      → One (function_at q f).code instruction.Nothing pc p1 → IntoDoes p call q deep f e (mode_of (waits_in e (is_within first count) (has_objects count) 0 0)) 0 0 p1 p2
      → One (function_at q f).code (forgets first count) p2 p3
      → Tests (function_at q f).code (waits_in e (is_within first count) (has_objects count) 0 0) labels places end p3 p4
      → ((label : Option ℕ) (to : ℕ) → IsPlace places end label to → Lists p call q deep f result (rf label) to end end again)
      → Runs p call q deep f result (λ s. tick s (λ s. then_do (evaluate p call e s) (λ v s. tick s (λ s.
      then_do (label_for (converted u v) labels 0 None (all_renewed (function_at q f).objects first count s)) (λ label s. then_do (rf label s) after_switch)))))
      pc end out again
  switch_runs u e first count labels places rf pc p1 p2 p3 p4 end out again hu hl o de i1 i2 df s now ws le fine =
      let Good2 = FlowGood p call q deep f result end out again s ws in
      let a = waits_in e (is_within first count) (has_objects count) 0 0 in
      let last : Option ℕ → machine.State → Run Flow = λ label s. then_do (rf label s) after_switch in
      let second : ℤ → machine.State → Run Flow =
      λ v s. tick s (λ s. then_do (label_for (converted u v) labels 0 None (all_renewed (function_at q f).objects first count s)) last) in
      tick_in q 14 Good2 (here f pc now ws s) (here f p1 now ws s) s 0 (60 * s.clock) (λ s. then_do (evaluate p call e s) second) (omega arith) refl refl
      (does_nothing q f pc p1 now ws s o)
      (λ n lt.
      let s1 : machine.State = record s { clock = n } in
      sim_then q 14 14 (Good p q f e (mode_of a) 0 0 p2 s1 now ws) Good2 (60 * n) 74 (60 * n + 60 + 0) n (here f p1 now ws s) (evaluate p call e s1) second
      (omega arith) (omega arith)
      (de s1 now ws (omega (arith, le, lt)) (fine_later (world p q f ws) s n fine))
      (λ v s2 z lt2 good.
      let h = held p q f e (is_within first count) (has_objects count) 0 0 p2 s1 now ws v s2 z good in
      sim_move q 14 Good2 (60 * s2.clock + 74) s2.clock z (here f p2 h.now ws s2) (second v s2) h.at
      (let w = forgets_them first count p2 p3 h.now ws s2 i1 in
      tick_in q 14 Good2 (here f p2 h.now ws s2) (here f p3 w.now2 ws (record s2 { store = forgotten (function_at q f).objects s2.base first count s2.store }))
      s2 74 (60 * s2.clock + 74)
      (λ s. then_do (label_for (converted u v) labels 0 None (all_renewed (function_at q f).objects first count s)) last) (omega arith) refl refl
      w.reaches
      (λ k lt3.
      let s3 : machine.State = record s2 { clock = k } in
      let g = all_forgotten (world p q f ws) first count s3 (fine_later (world p q f ws) s2 k h.known.fine) in
      let s4 = all_renewed (function_at q f).objects first count s3 in
      let w4 = after_all (is_within first count) (function_at q f).objects first count s3 (λ x lo hi. within_is first count x lo hi) in
      let ho = stays_there p q f (constant_of e) (rests_in e) (is_within first count) (has_objects count) 0 0 (word_for v) h.now w.now2 s2 s4 (w.keeps _ _)
      (after_since (is_within first count) s2 s4 k w4) h.holds in
      let into4 : After (first_automatic q) writes_all s s4 = after_on writes_all writes_all writes_all s s2 s4 (λ x y. y) (λ x y. y)
      (all_after _ s s2 (after_since _ s s2 n h.known.after)) (after_since writes_all s2 s4 k g.after) in
      let c4 : s4.clock ≡ k = g.clock in
      sim_move q 14 Good2 (60 * k + 60 + 74) k (here f p3 w.now2 ws (record s3 { store = forgotten (function_at q f).objects s3.base first count s3.store }))
      (here f p3 w.now2 ws s4) (then_do (label_for (converted u v) labels 0 None s4) last) (ap (here f p3 w.now2 ws) g.same)
      (sim_after q 14 Good2 (60 * k + 60 + 74) k (60 * s4.clock + 60 + 74) s4.clock 0 0 (here f p3 w.now2 ws s4) (here f p3 w.now2 ws s4)
      (then_do (label_for (converted u v) labels 0 None s4) last) (stays q (here f p3 w.now2 ws s4)) (omega (arith, c4)) (omega (arith, c4))
      (sim_then q 14 14 (Found places end w.now2 ws s4) Good2 (60 * s4.clock + 15) 60 (60 * s4.clock + 60 + 74) s4.clock (here f p3 w.now2 ws s4)
      (label_for (converted u v) labels 0 None s4) last (omega arith) (omega arith)
      (tests_do u v a places end hu (ranged (extent e) v h.known.value) labels places 0 None end p3 p4 w.now2 ws s4 s4 s4.clock refl hl ho
      (λ j. ap (slice_get places) (let y : j ≡ 0 + j = omega arith in y)) refl i2)
      (λ label s5 z5 lt5 found.
      let s6 : machine.State = record s4 { clock = found.k } in
      let e6 : s5 ≡ s6 = found.same in
      let ck : s5.clock ≡ found.k = ap (λ y. y.clock) e6 in
      sim_move q 14 Good2 (60 * s5.clock + 60) s5.clock z5 (here f found.to w.now2 ws s4) (last label s5) found.at
      (subst (λ y. Sim q 14 (60 * y.clock + 60) y.clock (here f found.to w.now2 ws s4) Good2 (last label y)) (sym e6)
      (sim_then q 14 14 (FlowGood p call q deep f result end end again s6 ws) Good2 (60 * found.k + 14) 60 (60 * found.k + 60) found.k
      (here f found.to w.now2 ws s4) (rf label s6) after_switch (omega arith) (omega arith)
      (df label found.to found.place s6 w.now2 ws (omega (arith, le, lt, lt2, lt3, lt5, c4, ck)) (fine_later (world p q f ws) s4 found.k g.fine))
      (λ flow s7 z7 lt7 good7. leave_switch end again (60 * s7.clock + 60) out s ws flow s7 z7 (omega arith)
      (flow_since p call q deep f result end end again s s6 ws
      (after_on writes_all writes_all writes_all s s4 s6 (λ x y. y) (λ x y. y) into4 (after_later writes_all s4 found.k)) flow s7 z7 good7)))))))))))
