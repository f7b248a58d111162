-- The code follows assignments, increments and decrements of values in memory (ISO/IEC 9899:2011 6.5.16, 6.5.2.4, 6.5.3.1).
use Rattle.std.proofs.Common.{◌≡◌, ℕ, ◌+◌, ◌*◌, ◌≤◌, List, [], length, Option, Some, None, Bool, true, false, ◌||◌, ℤ, Result, Ok, Err, refl, sym, ap, ◌∙◌, subst, arith}
use Rattle.std.specs.Prelude.{nat_lt}
use Rattle.srcset.specs.declared.refusal.Pos.{Pos}
use Rattle.ctypes.specs.declared.types.IntType.{IntType}
use Rattle.ctypes.specs.declared.operators.BinOp.{BinOp}
use Rattle.ctypes.specs.declared.operators.Undef.{Undef}
use Rattle.ctypes.specs.Types.{IsValueOf, converted}
use Rattle.ctypes.proofs.Uses.{converted_fits}
use Rattle.typing_spec.specs.Operators.{operated}
use Rattle.typing_spec.specs.Program as typed
use Rattle.typing_spec.specs.Program.{Moment, Place, Function, Value as Expression}
use Rattle.typing_spec.specs.Nodes.{type_of_place}
use Rattle.typing_spec.specs.WellTyped.{is_scalar}
use Rattle.csem.specs.Store.{Element, Reference, value_of, value_at}
use Rattle.csem.specs.Machine as machine
use Rattle.csem.specs.Machine.{Run, Goes, Stops, then_do, tick, choose, computed_at, read, write, value_or_undefined}
use Rattle.csem.specs.Expressions.{Calling, evaluate, find, position_of}
use Rattle.tac_code.specs.declared.code.Operand.{Operand}
use Rattle.tac_code.specs.declared.code.Operand.TheVariants as operand
use Rattle.tac_code.specs.declared.code.Target.TheVariants as target
use Rattle.tac_code.specs.declared.code.Place.{Place as Spot}
use Rattle.tac_code.specs.declared.code.Instruction.TheVariants as instruction
use Rattle.tac_code.specs.Code.{Program, function_at}
use Rattle.tac_code.specs.Run.{word, Call, running, word_for}
use Rattle.lower_wf.specs.Asked.{is_wide}
use Rattle.lower_correct.specs.Values.{object_of}
use Rattle.lower_correct.specs.Values.{calls, place_calls, writes, place_writes, writes_none, is_object, pending, at_rest, constant_or, rests_in, constant_of, extent, keeps, operand_of, free_temporary, Mode, mode_of}
use Rattle.lower_correct.specs.Places.{cuts, found, free_temporary_at, free_kept_at}
use Rattle.lower_correct.specs.Code.{One, Puts, Alters, Into}
use Rattle.lower_correct.proofs.Words.{Ranged, ranged, wide_word, word_stays}
use Rattle.lower_correct.proofs.Steps.{reaches_on, goes, Sim, sim_after, sim_then, sim_move, tick_in, halts}
use Rattle.lower_correct.proofs.Shapes.{value_in}
use Rattle.lower_correct.proofs.Stores.{Refers, Fine, After, after_on, after_none, after_since, after_store, fine_changed, fine_later}
use Rattle.lower_correct.proofs.Standing.{Scratch, here, put_scratch, set_same, set_other, Holds, does_nothing, first_automatic, world, sizes, IsCode}
use Rattle.lower_correct.proofs.Memory.{IsAt, tree_there, does_load}
use Rattle.lower_correct.proofs.Goods.{Keeps, keeps_all, keeps_on, keeps_put, IsFreeFor, RestsIn, IsConstant, Known, Suits, Good, mode_free, mode_suits, held, free_more}
use Rattle.lower_correct.proofs.Operations.{computes_do, operated_extent}
use Rattle.lower_correct.proofs.Leaves.{or_left, or_right, IntoDoes}
use Rattle.lower_correct.proofs.Changing.{goes_same}
use Rattle.lower_correct.proofs.Operators.{DoesAt}
use Rattle.lower_correct.proofs.Finding.{RefersAs, Found, FindsDo, stays_found, free_more_at}
use Rattle.lower_correct.proofs.Accesses.{scalar_refers, can_stay, IsFinal, final_same, with_element, puts_do, store_ends, write_there, found_beside}

module _ (p : typed.Program) (tf : Function) (call : Calling) (q : Program) (deep f : ℕ) (is : IsCode p tf q f) where
  -- the facts known after a place, perhaps an expression, and a store
  pub known_written : (node : Expression) (c2 : Bool) (w2 : ℕ → Bool) (a : Place) (t k t2 k2 n : ℕ) (s : machine.State) (now now2 now3 now4 : Scratch)
      (x : ℤ) (r : Reference) (u : IntType) (v : ℤ) (ws : List Call) (s2 s3 : machine.State)
      → (calls node ≡ false → place_calls a ≡ false) → (calls node ≡ false → c2 ≡ false) → ((y : ℕ) → writes node y ≡ false → place_writes a y ≡ false)
      → ((y : ℕ) → writes node y ≡ false → w2 y ≡ false) → rests_in node ≡ None → constant_of node ≡ None → IsValueOf (extent node) x → t ≤ t2 → k ≤ k2
      → Keeps (place_calls a) t k now now2 → Keeps c2 t2 k2 now2 now3 → (Keeps (calls node) t k now now3 → Keeps (calls node) t k now now4)
      → Fine (world p q f ws) s3 → Refers (world p q f ws) r u [] → nat_lt r.object (length q.literals) ≡ false
      → After (first_automatic q) (place_writes a) (record s { clock = n }) s2 → After (first_automatic q) w2 s2 s3
      → Known (world p q f ws) node t k s now x (with_element p tf call q deep f is r (converted u v) s3) now4
  known_written node c2 w2 a t k t2 k2 n s now now2 now3 now4 x r u v ws s2 s3 hc1 hc2 hw1 hw2 hr hk hv l1 l2 k1 kk more fine refers hl a1 a2 =
      let s4 = with_element p tf call q deep f is r (converted u v) s3 in
      record {
        keeps = more (keeps_on (calls node) (place_calls a) c2 t k t k t2 k2 now now2 now3 hc1 hc2 (omega arith) l1 (omega arith) l2 k1 kk);
        fine = fine_changed (world p q f ws) r refers.object [] (Element (Some (converted u v))) s3 refers.at refers.leads
            (subst (λ y. IsValueOf y (converted u v)) (sym refers.element) (converted_fits u v)) hl fine;
        value = hv;
        after = after_on (writes node) (writes node) writes_none s s3 s4 (λ y h. h) (λ y h. refl)
            (after_on (writes node) (place_writes a) w2 s s2 s3 hw1 hw2 (after_since (place_writes a) s s2 n a1) a2)
            (after_store (world p q f ws) writes_none r u [] (Element (Some (converted u v))) s3 fine refers);
        rests = subst (λ o. RestsIn o x s4) (sym hr) tt;
        constant = subst (λ o. IsConstant o x) (sym hk) tt;
      }

  -- ---- assignment (6.5.16.1)

  module _ (at : Pos) (a : Place) (u : IntType) (e : Expression) (m : Mode) (t k : ℕ) (apart : object_of a ≡ None)
      (sc : is_scalar u (type_of_place p tf a) ≡ true) (fr : IsFreeFor m t k) (su : Suits p q f m u) where
    abbrev spot : Spot
    spot = found a (calls e) t k

    abbrev t2 : ℕ
    t2 = free_temporary_at spot t

    abbrev k2 : ℕ
    k2 = free_kept_at spot k

    abbrev assigned : Expression
    assigned = typed.assigned at u a e

    assigned_last : (n p3 pc2 : ℕ) (s : machine.State) (now now2 now3 : Scratch) (ws : List Call) (r : Reference) (v : ℤ) (s2 s3 : machine.State)
        → Puts (function_at q f).code (cuts u m || keeps u e) u (operand_of e t2 k2) spot m t2 p3 pc2 → Holds q f (operand_of e t2 k2) (word_for v) now3 s3
        → IsAt p q f spot r now3 s3 → RefersAs (world p q f ws) r (type_of_place p tf a) → Keeps (place_calls a) t k now now2
        → After (first_automatic q) (place_writes a) (record s { clock = n }) s2 → Known (world p q f ws) e t2 k2 s2 now2 v s3 now3
        → Sim q 14 (60 * s3.clock + 114) s3.clock (here f p3 now3 ws s3) (Good p q f assigned m t k pc2 s now ws) (write p at r (converted u v) s3)
    assigned_last n p3 pc2 s now now2 now3 ws r v s2 s3 i h ha hr k1 a1 ke =
        let Result2 = Good p q f assigned m t k pc2 s now ws in
        let cv = converted u v in
        let s4 = with_element p tf call q deep f is r cv s3 in
        let refers = scalar_refers (world p q f ws) r u (type_of_place p tf a) sc hr in
        let more = free_more_at p tf call q deep f is spot t k in
        let rv = ranged (extent e) v ke.value in
        goes_same p call q deep f Result2 (60 * s3.clock + 114) s3.clock (here f p3 now3 ws s3) (write p at r cv s3)
        (write_there p tf call q deep f is Result2 (60 * s3.clock + 114) s3.clock (here f p3 now3 ws s3) at r u cv ws s3
        (λ y s. Goes y s) (nat_lt r.object (length p.literals)) ke.fine refers refl refl refl
        (λ hl.
        let st = puts_do p tf call q deep f is (cuts u m || keeps u e) u (operand_of e t2 k2) spot m t2 p3 pc2 r v now3 ws s3
        (can_stay u m v (keeps u e) rv (λ g. sym (word_stays u (extent e) v g ke.value))) i h ha
        (λ w. found_beside p tf call q deep f is a (calls e) t k t2 w r now3 s3 (omega arith) ha) refers ke.fine hl rv in
        let l = store_ends p tf call q deep f is assigned u m t k st.pc pc2 (60 * s3.clock + 22) st.operand cv cv s now st.now2 ws s4 fr su st.ends st.holds
        (final_same m cv) (omega arith)
        (known_written assigned (calls e) (writes e) a t k t2 k2 n s now now2 now3 st.now2 cv r u v ws s2 s3 (or_left (place_calls a) (calls e))
        (or_right (place_calls a) (calls e)) (λ y g. or_left (place_writes a y) (is_object (object_of a) y || writes e y) g)
        (λ y g. or_right (is_object (object_of a) y) (writes e y) (or_right (place_writes a y) (is_object (object_of a) y || writes e y) g)) apart refl
        (converted_fits u v) more.0 more.1 k1 ke.keeps (λ g. st.keeps (place_calls a || calls e) t k now more.0 g) ke.fine refers hl a1 ke.after) in
        goes q 14 (Result2 cv) (60 * s3.clock + 114) s3.clock (st.steps + l.j) (st.cost + l.c) (here f p3 now3 ws s3) l.u s4
        (reaches_on q (here f p3 now3 ws s3) (here f st.pc st.now2 ws s4) st.steps st.cost l.j l.c (running l.u) st.reaches l.reaches)
        (let x = st.small in let y = l.within in omega (arith, x, y)) (omega arith) l.good))

    pub assigned_does : (pc p1 p2 p3 pc2 : ℕ) → FindsDo p tf call q deep f is a (calls e) t k p1 p2 → DoesAt p call q deep f e t2 k2
        → One (function_at q f).code instruction.Nothing pc p1 → Into (function_at q f).code (sizes p f) e (mode_of (operand_of e t2 k2)) t2 k2 p2 p3
        → Puts (function_at q f).code (cuts u m || keeps u e) u (operand_of e t2 k2) spot m t2 p3 pc2 → IntoDoes p call q deep f assigned m t k pc pc2
    assigned_does pc p1 p2 p3 pc2 da de i1 i2 i3 s now ws le fine =
        let o = operand_of e t2 k2 in
        let Result2 = Good p q f assigned m t k pc2 s now ws in
        let last : Reference → ℤ → machine.State → Run ℤ = λ r v s. write p at r (converted u v) s in
        tick_in q 14 Result2 (here f pc now ws s) (here f p1 now ws s) s 0 (60 * s.clock)
        (λ s. then_do (find p call a s) (λ r s. then_do (evaluate p call e s) (last r))) (omega arith) refl refl (does_nothing q f pc p1 now ws s i1)
        (λ n lt.
        let s1 : machine.State = record s { clock = n } in
        sim_then q 40 14 (Found p tf call q deep f is a (calls e) t k p2 s1 now ws) Result2 (60 * n) 100 (60 * n + 60 + 0) n (here f p1 now ws s)
        (find p call a s1) (λ r s. then_do (evaluate p call e s) (last r)) (omega arith) (omega arith)
        (da s1 now ws (omega (arith, le, lt)) (fine_later (world p q f ws) s n fine))
        (λ r s2 z lt2 fa.
        sim_move q 14 Result2 (60 * s2.clock + 100) s2.clock z (here f p2 fa.now ws s2) (then_do (evaluate p call e s2) (last r)) fa.at
        (sim_then q 14 14 (Good p q f e (mode_of o) t2 k2 p3 s2 fa.now ws) Result2 (60 * s2.clock) 114 (60 * s2.clock + 100) s2.clock
        (here f p2 fa.now ws s2) (evaluate p call e s2) (last r) (omega arith) (omega arith)
        (de (mode_of o) p2 p3 (mode_free p q f (constant_of e) (rests_in e) writes_none false t2 k2)
        (mode_suits p q f (constant_of e) (rests_in e) writes_none false t2 k2 (extent e)) i2 s2 fa.now ws (omega (arith, le, lt, lt2)) fa.fine)
        (λ v s3 z3 lt3 ge.
        let hb = held p q f e writes_none false t2 k2 p3 s2 fa.now ws v s3 z3 ge in
        sim_move q 14 Result2 (60 * s3.clock + 114) s3.clock z3 (here f p3 hb.now ws s3) (last r v s3) hb.at
        (assigned_last n p3 pc2 s now fa.now hb.now ws r v s2 s3 i3 hb.holds
        (stays_found p tf call q deep f is a (calls e) t k r fa.now hb.now (writes e) s2 s3 hb.known.keeps hb.known.after fa.holds) fa.refers fa.keeps fa.after
        hb.known)))))

  -- ---- an old value in temporary j, changed (6.5.16.2)

  pub alters_ok : (node : Expression) (m : Mode) (t k : ℕ) (at : Pos) (o : BinOp) (u of : IntType) (b : Operand) (a : Place) (c : Bool) (j pc pc2 : ℕ)
      (r : Reference) (ov v w : ℤ) (finish : ℤ → ℤ) (before : machine.State) (old now : Scratch) (ws : List Call) (s : machine.State)
      → IsFreeFor m t k → Suits p q f m (extent node) → is_wide of ≡ true → Alters (function_at q f).code o u of b (found a c t k) m j pc pc2
      → now.temporaries j ≡ Some (word (word_for ov)) → Holds q f b (word_for v) now s → IsAt p q f (found a c t k) r now s
      → free_temporary_at (found a c t k) t ≤ j → Refers (world p q f ws) r u [] → Fine (world p q f ws) s → Ranged ov → Ranged v
      → ((y : ℤ) → IsFinal m (finish y) y) → operated o of ov v ≡ Ok w
      → ((now5 : Scratch) → nat_lt r.object (length q.literals) ≡ false → ((d : Bool) (i l : ℕ) (old : Scratch) → i ≤ j → Keeps d i l old now → Keeps d i l old now5)
      → Known (world p q f ws) node t k before old (finish (converted u w)) (with_element p tf call q deep f is r (converted u w) s) now5)
      → Sim q 14 (60 * s.clock + 80) s.clock (here f pc now ws s) (Good p q f node m t k pc2 before old ws)
      (then_do (write p at r (converted u w) s) (λ y s. Goes (finish y) s))
  alters_ok node m t k at o u of b a c j pc pc2 r ov v w finish before old now ws s fr su hof i h1 hb ha le hr fine ro rv fin eo known =
      let Result2 = Good p q f node m t k pc2 before old ws in
      let cw = converted u w in
      let s4 = with_element p tf call q deep f is r cw s in
      let g = target.Temporary j in
      let rw_ = ranged _ w (operated_extent o of ov v w eo) in
      let l1 = computes_do p q f o of g (operand.Temporary j) b j ov v w pc i.0 now ws s hof ro rv i.1 h1 hb eo tt in
      let now5 = put_scratch g (word_for w) l1.now2 in
      let t2 = free_temporary_at (found a c t k) t in
      let k2 = free_kept_at (found a c t k) k in
      let kept : Keeps c t2 k2 now now5 =
      keeps_put g (word_for w) c t2 k2 now l1.now2 le (l1.keeps c t2 k2 now le (keeps_all c t2 k2 now)) in
      let ha5 = stays_found p tf call q deep f is a c t k r now now5 writes_none s s kept (after_none writes_none s) ha in
      write_there p tf call q deep f is Result2 (60 * s.clock + 80) s.clock (here f pc now ws s) at r u cw ws s
      (λ y s. Goes (finish y) s) (nat_lt r.object (length p.literals)) fine hr refl refl refl
      (λ hl.
      let st = puts_do p tf call q deep f is (cuts u m || is_wide u) u (operand.Temporary j) (found a c t k) m j i.0 pc2 r w now5 ws s
      (can_stay u m w (is_wide u) rw_ (λ y. sym (wide_word u w y))) i.2 (set_same l1.now2.temporaries j (word (word_for w))) ha5
      (λ n. found_beside p tf call q deep f is a c t k j n r now5 s le ha5) hr fine hl rw_ in
      let l = store_ends p tf call q deep f is node u m t k st.pc pc2 (60 * s.clock + 22) st.operand (finish cw) cw before old st.now2 ws s4 fr su st.ends st.holds
      (fin cw) (omega arith)
      (known st.now2 hl (λ d y z old2 lo n. st.keeps d y z old2 lo (keeps_put g (word_for w) d y z old2 l1.now2 lo (l1.keeps d y z old2 lo n)))) in
      goes q 14 (Result2 (finish cw)) (60 * s.clock + 80) s.clock (l1.j + (st.steps + l.j)) (l1.c + (st.cost + l.c)) (here f pc now ws s) l.u s4
      (reaches_on q (here f pc now ws s) (here f i.0 now5 ws s) l1.j l1.c (st.steps + l.j) (st.cost + l.c) (running l.u) l1.reaches
      (reaches_on q (here f i.0 now5 ws s) (here f st.pc st.now2 ws s4) st.steps st.cost l.j l.c (running l.u) st.reaches l.reaches))
      (let x = l1.small in let y = st.small in let z = l.within in omega (arith, x, y, z)) (omega arith) l.good)

  -- an operand and a further temporary that is free
  beside_word : (n : Option ℤ) (x : Option ℕ) (t k w w2 : ℕ) (now : Scratch) (s : machine.State)
      → Holds q f (constant_or n (at_rest x writes_none (pending false t k))) w now s
      → Holds q f (constant_or n (at_rest x writes_none (pending false t k))) w
      (put_scratch (target.Temporary (free_temporary (constant_or n (at_rest x writes_none (pending false t k))) t)) w2 now) s
  beside_word (Some v) x t k w w2 now s h = h
  beside_word None None t k w w2 now s h = set_other now.temporaries (t + 1) t (word w2) (λ m. let z : ⊥ = omega (arith, m) in z) ∙ h
  beside_word None (Some x) t k w w2 now s h = h

  module _ (at : Pos) (o : BinOp) (u of : IntType) (a : Place) (e : Expression) (m : Mode) (t k : ℕ) (apart : object_of a ≡ None)
      (sc : is_scalar u (type_of_place p tf a) ≡ true) (hof : is_wide of ≡ true) (fr : IsFreeFor m t k) (su : Suits p q f m u) where
    abbrev its_spot : Spot
    its_spot = found a (calls e) t k

    abbrev tt2 : ℕ
    tt2 = free_temporary_at its_spot t

    abbrev kk2 : ℕ
    kk2 = free_kept_at its_spot k

    abbrev b : Operand
    b = operand_of e tt2 kk2

    abbrev j : ℕ
    j = free_temporary b tt2

    abbrev compound : Expression
    compound = typed.compound at o u of a e

    compound_last : (n p3 p4 pc2 : ℕ) (s : machine.State) (now now2 now3 : Scratch) (ws : List Call) (r : Reference) (v : ℤ) (s2 s3 : machine.State)
        → One (function_at q f).code (instruction.Load u (target.Temporary j) its_spot) p3 p4 → Alters (function_at q f).code o u of b its_spot m j p4 pc2
        → Holds q f b (word_for v) now3 s3 → IsAt p q f its_spot r now3 s3 → RefersAs (world p q f ws) r (type_of_place p tf a)
        → Keeps (place_calls a) t k now now2 → After (first_automatic q) (place_writes a) (record s { clock = n }) s2
        → Known (world p q f ws) e tt2 kk2 s2 now2 v s3 now3 → (ov : Option ℤ) → value_at s3.store r ≡ ov
        → Sim q 14 (60 * s3.clock + 114) s3.clock (here f p3 now3 ws s3) (Good p q f compound m t k pc2 s now ws)
        (then_do (value_or_undefined (position_of a) ov s3)
        (λ old s. then_do (computed_at at (operated o of old v) s) (λ w s. write p at r (converted u w) s)))
    compound_last n p3 p4 pc2 s now now2 now3 ws r v s2 s3 i1 i2 h ha hr k1 a1 ke None ex =
        halts q (60 * s3.clock + 114) (here f p3 now3 ws s3) s3 refl refl
    compound_last n p3 p4 pc2 s now now2 now3 ws r v s2 s3 i1 i2 h ha hr k1 a1 ke (Some ov) ex = by_result (operated o of ov v) refl
      where
        by_result : (res : Result ℤ Undef) → operated o of ov v ≡ res
            → Sim q 14 (60 * s3.clock + 114) s3.clock (here f p3 now3 ws s3) (Good p q f compound m t k pc2 s now ws)
            (then_do (computed_at at res s3) (λ w s. write p at r (converted u w) s))
        by_result (Err act) er = halts q (60 * s3.clock + 114) (here f p3 now3 ws s3) s3 refl refl
        by_result (Ok w) er =
            let Result2 = Good p q f compound m t k pc2 s now ws in
            let refers = scalar_refers (world p q f ws) r u (type_of_place p tf a) sc hr in
            let sub = tree_there (world p q f ws) r u [] s3 ke.fine refers in
            let hov : IsValueOf u ov = value_in u [] sub.tree ov sub.has (ap value_of (sym sub.is) ∙ ex) in
            let now4 = put_scratch (target.Temporary j) (word_for ov) now3 in
            let more = free_more_at p tf call q deep f is its_spot t k in
            let more2 = free_more p q f b tt2 kk2 in
            let tj : t ≤ j = (let x = more.0 in let y = more2.0 in omega (arith, x, y)) in
            sim_after q 14 Result2 (60 * s3.clock + 114) s3.clock (60 * s3.clock + 80) s3.clock 1 7 (here f p3 now3 ws s3) (here f p4 now4 ws s3)
            (write p at r (converted u w) s3) (does_load p q f u (target.Temporary j) its_spot r ov p3 p4 now3 ws s3 i1 ha refers ex tt)
            (omega arith) (omega arith)
            (goes_same p call q deep f Result2 (60 * s3.clock + 80) s3.clock (here f p4 now4 ws s3) (write p at r (converted u w) s3)
            (alters_ok compound m t k at o u of b a (calls e) j p4 pc2 r ov v w (λ y. y) s now now4 ws s3 fr su hof i2
            (set_same now3.temporaries j (word (word_for ov)))
            (beside_word (constant_of e) (rests_in e) tt2 kk2 (word_for v) (word_for ov) now3 s3 h)
            (found_beside p tf call q deep f is a (calls e) t k j (word_for ov) r now3 s3 more2.0 ha) more2.0 refers ke.fine (ranged u ov hov)
            (ranged (extent e) v ke.value) (λ y. final_same m y) er
            (λ now5 hl ks.
            known_written compound (calls e) (writes e) a t k tt2 kk2 n s now now2 now3 now5 (converted u w) r u w ws s2 s3 (or_left (place_calls a) (calls e))
            (or_right (place_calls a) (calls e)) (λ y g. or_left (place_writes a y) (is_object (object_of a) y || writes e y) g)
            (λ y g. or_right (is_object (object_of a) y) (writes e y) (or_right (place_writes a y) (is_object (object_of a) y || writes e y) g)) apart refl
            (converted_fits u w) more.0 more.1 k1 ke.keeps
            (λ g. ks (place_calls a || calls e) t k now tj (keeps_put (target.Temporary j) (word_for ov) (place_calls a || calls e) t k now now3 tj g))
            ke.fine refers hl a1 ke.after)))

    pub compound_memory : (pc p1 p2 p3 p4 pc2 : ℕ) → FindsDo p tf call q deep f is a (calls e) t k p1 p2 → DoesAt p call q deep f e tt2 kk2
        → One (function_at q f).code instruction.Nothing pc p1 → Into (function_at q f).code (sizes p f) e (mode_of b) tt2 kk2 p2 p3
        → One (function_at q f).code (instruction.Load u (target.Temporary j) its_spot) p3 p4 → Alters (function_at q f).code o u of b its_spot m j p4 pc2
        → IntoDoes p call q deep f compound m t k pc pc2
    compound_memory pc p1 p2 p3 p4 pc2 da de i1 i2 i3 i4 s now ws le fine =
        let Result2 = Good p q f compound m t k pc2 s now ws in
        let last : Reference → ℤ → machine.State → Run ℤ = λ r v s. then_do (read (position_of a) r s)
        (λ old s. then_do (computed_at at (operated o of old v) s) (λ w s. write p at r (converted u w) s)) in
        tick_in q 14 Result2 (here f pc now ws s) (here f p1 now ws s) s 0 (60 * s.clock)
        (λ s. then_do (find p call a s) (λ r s. then_do (evaluate p call e s) (last r))) (omega arith) refl refl (does_nothing q f pc p1 now ws s i1)
        (λ n lt.
        let s1 : machine.State = record s { clock = n } in
        sim_then q 40 14 (Found p tf call q deep f is a (calls e) t k p2 s1 now ws) Result2 (60 * n) 100 (60 * n + 60 + 0) n (here f p1 now ws s)
        (find p call a s1) (λ r s. then_do (evaluate p call e s) (last r)) (omega arith) (omega arith)
        (da s1 now ws (omega (arith, le, lt)) (fine_later (world p q f ws) s n fine))
        (λ r s2 z lt2 fa.
        sim_move q 14 Result2 (60 * s2.clock + 100) s2.clock z (here f p2 fa.now ws s2) (then_do (evaluate p call e s2) (last r)) fa.at
        (sim_then q 14 14 (Good p q f e (mode_of b) tt2 kk2 p3 s2 fa.now ws) Result2 (60 * s2.clock) 114 (60 * s2.clock + 100) s2.clock
        (here f p2 fa.now ws s2) (evaluate p call e s2) (last r) (omega arith) (omega arith)
        (de (mode_of b) p2 p3 (mode_free p q f (constant_of e) (rests_in e) writes_none false tt2 kk2)
        (mode_suits p q f (constant_of e) (rests_in e) writes_none false tt2 kk2 (extent e)) i2 s2 fa.now ws (omega (arith, le, lt, lt2)) fa.fine)
        (λ v s3 z3 lt3 ge.
        let hb = held p q f e writes_none false tt2 kk2 p3 s2 fa.now ws v s3 z3 ge in
        sim_move q 14 Result2 (60 * s3.clock + 114) s3.clock z3 (here f p3 hb.now ws s3) (last r v s3) hb.at
        (compound_last n p3 p4 pc2 s now fa.now hb.now ws r v s2 s3 i3 i4 hb.holds
        (stays_found p tf call q deep f is a (calls e) t k r fa.now hb.now (writes e) s2 s3 hb.known.keeps hb.known.after fa.holds) fa.refers fa.keeps fa.after
        hb.known (value_at s3.store r) refl)))))
