-- The code follows `++` and `--` of values in memory (ISO/IEC 9899:2011 6.5.2.4, 6.5.3.1), if it finds the place.
use Rattle.std.proofs.Common.{◌≡◌, ℕ, ◌+◌, ◌*◌, ◌≤◌, [], length, Option, Some, None, Bool, true, false, ◌||◌, ℤ, pos, Result, Ok, Err, refl, sym, ap, ◌∙◌, subst, arith}
use Rattle.std.specs.Prelude.{nat_lt, List}
use Rattle.srcset.specs.declared.refusal.Pos.{Pos}
use Rattle.ctypes.specs.declared.types.IntType.{IntType}
use Rattle.ctypes.specs.declared.operators.Undef.{Undef}
use Rattle.ctypes.specs.Types.{IsValueOf, converted}
use Rattle.ctypes.proofs.Uses.{converted_fits}
use Rattle.tree.specs.declared.expression.StepOp.{StepOp}
use Rattle.typing_spec.specs.Operators.{operated}
use Rattle.typing_spec.specs.Program as typed
use Rattle.typing_spec.specs.Program.{Moment, Place, Function, Value as Expression}
use Rattle.typing_spec.specs.Nodes.{type_of_place}
use Rattle.typing_spec.specs.WellTyped.{is_scalar}
use Rattle.csem.specs.Store.{Reference, value_of, value_at}
use Rattle.csem.specs.Machine as machine
use Rattle.csem.specs.Machine.{Run, Goes, then_do, computed_at, read, write, value_or_undefined}
use Rattle.csem.specs.Expressions.{Calling, find, position_of, step_operation, step_value}
use Rattle.tac_code.specs.declared.code.Operand.TheVariants as operand
use Rattle.tac_code.specs.declared.code.Target.TheVariants as target
use Rattle.tac_code.specs.declared.code.Place.{Place as Spot}
use Rattle.tac_code.specs.declared.code.Instruction.TheVariants as instruction
use Rattle.tac_code.specs.Code.{Program, function_at}
use Rattle.tac_code.specs.Run.{word, Call, running, word_for}
use Rattle.lower_wf.specs.Asked.{is_wide}
use Rattle.lower_correct.specs.Values.{object_of}
use Rattle.lower_correct.specs.Values.{place_calls, place_writes, writes_none, is_object, Mode, Nowhere, To, If}
use Rattle.lower_correct.specs.Places.{cuts, found, free_temporary_at, free_kept_at}
use Rattle.lower_correct.specs.Code.{One, AltersAside, AltersBy}
use Rattle.lower_correct.proofs.Words.{ranged, wide_word}
use Rattle.lower_correct.proofs.Steps.{Reaches, reaches_on, goes, Sim, sim_after, sim_then, sim_move, tick_in, halts}
use Rattle.lower_correct.proofs.Shapes.{value_in}
use Rattle.lower_correct.proofs.Stores.{Refers, Fine, After, after_none, fine_later}
use Rattle.lower_correct.proofs.Standing.{Scratch, here, put_scratch, set_same, does_nothing, first_automatic, world, IsCode}
use Rattle.lower_correct.proofs.Memory.{IsAt, tree_there, does_load}
use Rattle.lower_correct.proofs.Goods.{Keeps, keeps_all, keeps_put, IsFreeFor, Known, Suits, Good, ends}
use Rattle.lower_correct.proofs.Operations.{computes_do, operated_extent}
use Rattle.lower_correct.proofs.Leaves.{or_left, IntoDoes}
use Rattle.lower_correct.proofs.Changing.{one_fits}
use Rattle.lower_correct.proofs.Finding.{RefersAs, Found, FindsDo, stays_found, free_more_at}
use Rattle.lower_correct.proofs.Accesses.{scalar_refers, can_stay, IsFinal, with_element, puts_do, write_there, found_beside}
use Rattle.lower_correct.proofs.Assigning.{known_written, alters_ok}

or_none : (b : Bool) → (b || false) ≡ false → b ≡ false
or_none true h = h
or_none false h = refl

module _ (p : typed.Program) (tf : Function) (call : Calling) (q : Program) (deep f : ℕ) (is : IsCode p tf q f) (at : Pos) (so : StepOp) (u of : IntType)
    (a : Place) (t k : ℕ) (apart : object_of a ≡ None) (sc : is_scalar u (type_of_place p tf a) ≡ true) (hof : is_wide of ≡ true) where
  abbrev spot : Spot
  spot = found a false t k

  abbrev j : ℕ
  j = free_temporary_at spot t

  abbrev node : Moment → Expression
  node moment = typed.stepped at moment so u of a

  -- the facts known after the change
  step_known : (moment : Moment) (n : ℕ) (s : machine.State) (now now2 now5 : Scratch) (x : ℤ) (r : Reference) (w : ℤ) (ws : List Call) (s2 : machine.State)
      → IsValueOf u x → Keeps (place_calls a) t k now now2 → (Keeps (place_calls a) t k now now2 → Keeps (place_calls a) t k now now5)
      → Fine (world p q f ws) s2 → Refers (world p q f ws) r u [] → nat_lt r.object (length q.literals) ≡ false
      → After (first_automatic q) (place_writes a) (record s { clock = n }) s2
      → Known (world p q f ws) (node moment) t k s now x (with_element p tf call q deep f is r (converted u w) s2) now5
  step_known typed.before n s now now2 now5 x r w ws s2 hv k1 more fine refers hl a1 =
      known_written p tf call q deep f is (node typed.before) false writes_none a t k t k n s now now2 now2 now5 x r u w ws s2 s2 (λ h. h) (λ h. refl)
      (λ y h. or_left (place_writes a y) (is_object (object_of a) y) h) (λ y h. refl) apart refl hv (omega arith) (omega arith) k1 (keeps_all false t k now2)
      more fine refers hl a1 (after_none writes_none s2)
  step_known typed.after n s now now2 now5 x r w ws s2 hv k1 more fine refers hl a1 =
      known_written p tf call q deep f is (node typed.after) false writes_none a t k t k n s now now2 now2 now5 x r u w ws s2 s2 (λ h. h) (λ h. refl)
      (λ y h. or_left (place_writes a y) (is_object (object_of a) y) h) (λ y h. refl) refl refl hv (omega arith) (omega arith) k1 (keeps_all false t k now2)
      more fine refers hl a1 (after_none writes_none s2)

  -- the new value is stored and the old one kept, which is the value
  aside_ok : (m : Mode) (n pc pc2 : ℕ) (r : Reference) (ov w : ℤ) (s : machine.State) (now now2 now4 : Scratch) (ws : List Call) (s2 : machine.State)
      → IsFreeFor m t k → Suits p q f m u → AltersAside (function_at q f).code (step_operation so) u of spot m j pc pc2
      → now4.temporaries j ≡ Some (word (word_for ov)) → IsAt p q f spot r now4 s2 → Refers (world p q f ws) r u [] → Fine (world p q f ws) s2
      → IsValueOf u ov → operated (step_operation so) of ov (pos 1) ≡ Ok w → Keeps (place_calls a) t k now now2
      → ((d : Bool) (i l : ℕ) (old : Scratch) → i ≤ j → Keeps d i l old now2 → Keeps d i l old now4)
      → After (first_automatic q) (place_writes a) (record s { clock = n }) s2
      → Sim q 14 (60 * s2.clock + 80) s2.clock (here f pc now4 ws s2) (Good p q f (node typed.after) m t k pc2 s now ws)
      (then_do (write p at r (converted u w) s2) (λ y s. Goes ov s))
  aside_ok m n pc pc2 r ov w s now now2 now4 ws s2 fr su i h1 ha hr fine hov eo k1 ks a1 =
      let e = node typed.after in
      let Result2 = Good p q f e m t k pc2 s now ws in
      let cw = converted u w in
      let s4 = with_element p tf call q deep f is r cw s2 in
      let g = target.Temporary (j + 1) in
      let tj : t ≤ j = (free_more_at p tf call q deep f is spot t k).0 in
      let jj : j ≤ j + 1 = omega arith in
      let rw_ = ranged _ w (operated_extent (step_operation so) of ov (pos 1) w eo) in
      let l1 = computes_do p q f (step_operation so) of g (operand.Temporary j) (operand.Constant 1) (j + 1) ov (pos 1) w pc i.0 now4 ws s2 hof (ranged u ov hov)
      one_fits i.2 h1 refl eo tt in
      let now5 = put_scratch g (word_for w) l1.now2 in
      let k2 = free_kept_at spot k in
      let kept : Keeps false j k2 now4 now5 =
      keeps_put g (word_for w) false j k2 now4 l1.now2 jj (l1.keeps false j k2 now4 jj (keeps_all false j k2 now4)) in
      let ha5 = stays_found p tf call q deep f is a false t k r now4 now5 writes_none s2 s2 kept (after_none writes_none s2) ha in
      write_there p tf call q deep f is Result2 (60 * s2.clock + 80) s2.clock (here f pc now4 ws s2) at r u cw ws s2
      (λ y s. Goes ov s) (nat_lt r.object (length p.literals)) fine hr refl refl refl
      (λ hl.
      let st = puts_do p tf call q deep f is (cuts u Nowhere || is_wide u) u (operand.Temporary (j + 1)) spot Nowhere (j + 1) i.0 i.1 r w now5 ws s2
      (can_stay u Nowhere w (is_wide u) rw_ (λ y. sym (wide_word u w y))) i.3 (set_same l1.now2.temporaries (j + 1) (word (word_for w))) ha5
      (λ x. found_beside p tf call q deep f is a false t k (j + 1) x r now5 s2 jj ha5) hr fine hl rw_ in
      let whole_keeps : (d : Bool) (y z : ℕ) (old : Scratch) → y ≤ j + 1 → Keeps d y z old now4 → Keeps d y z old st.now2 =
      λ d y z old lo n. st.keeps d y z old lo (keeps_put g (word_for w) d y z old l1.now2 lo (l1.keeps d y z old lo n)) in
      let there = (whole_keeps false (j + 1) 0 now4 (omega arith) (keeps_all false (j + 1) 0 now4)).temporaries refl j (omega arith) ∙ h1 in
      let known = step_known typed.after n s now now2 st.now2 ov r w ws s2 hov k1
      (λ x. whole_keeps (place_calls a) t k now (omega (arith, tj)) (ks (place_calls a) t k now tj x)) fine hr hl a1 in
      let l = ends p q f e m t k (operand.Temporary j) i.1 pc2 (60 * s2.clock + 22) s now st.now2 ws ov s4 fr su i.4 there (omega arith) known in
      goes q 14 (Result2 ov) (60 * s2.clock + 80) s2.clock (l1.j + (st.steps + l.j)) (l1.c + (st.cost + l.c)) (here f pc now4 ws s2) l.u s4
      (reaches_on q (here f pc now4 ws s2) (here f i.0 now5 ws s2) l1.j l1.c (st.steps + l.j) (st.cost + l.c) (running l.u) l1.reaches
      (reaches_on q (here f i.0 now5 ws s2) (here f i.1 st.now2 ws s4) st.steps st.cost l.j l.c (running l.u)
      (subst (λ x. Reaches q (here f i.0 now5 ws s2) st.steps st.cost (running (here f x st.now2 ws s4))) st.ends st.reaches) l.reaches))
      (let x = l1.small in let y = st.small in let z = l.within in omega (arith, x, y, z)) (omega arith) l.good)

  -- by moment and use
  step_by : (moment : Moment) (m : Mode) (n pc pc2 : ℕ) (r : Reference) (ov w : ℤ) (s : machine.State) (now now2 now4 : Scratch) (ws : List Call)
      (s2 : machine.State)
      → IsFreeFor m t k → Suits p q f m u → AltersBy (function_at q f).code moment (step_operation so) u of spot m j pc pc2
      → now4.temporaries j ≡ Some (word (word_for ov)) → IsAt p q f spot r now4 s2 → Refers (world p q f ws) r u [] → Fine (world p q f ws) s2
      → IsValueOf u ov → operated (step_operation so) of ov (pos 1) ≡ Ok w → Keeps (place_calls a) t k now now2
      → ((d : Bool) (i l : ℕ) (old : Scratch) → i ≤ j → Keeps d i l old now2 → Keeps d i l old now4)
      → After (first_automatic q) (place_writes a) (record s { clock = n }) s2
      → Sim q 14 (60 * s2.clock + 80) s2.clock (here f pc now4 ws s2) (Good p q f (node moment) m t k pc2 s now ws)
      (then_do (write p at r (converted u w) s2) (λ y s. Goes (step_value moment ov y) s))
  step_by typed.before m n pc pc2 r ov w s now now2 now4 ws s2 fr su i h1 ha hr fine hov eo k1 ks a1 =
      let tj : t ≤ j = (free_more_at p tf call q deep f is spot t k).0 in
      alters_ok p tf call q deep f is (node typed.before) m t k at (step_operation so) u of (operand.Constant 1) a false j pc pc2 r ov (pos 1) w (λ y. y) s now
      now4 ws s2 fr su hof i h1 refl ha (omega arith) hr fine (ranged u ov hov) one_fits (λ y. same_final m y) eo
      (λ now5 hl more. step_known typed.before n s now now2 now5 (converted u w) r w ws s2 (converted_fits u w) k1
      (λ x. more (place_calls a) t k now tj (ks (place_calls a) t k now tj x)) fine hr hl a1)
    where
      same_final : (m : Mode) (y : ℤ) → IsFinal m y y
      same_final Nowhere y = tt
      same_final (To g) y = refl
      same_final (If sense to) y = refl
  step_by typed.after Nowhere n pc pc2 r ov w s now now2 now4 ws s2 fr su i h1 ha hr fine hov eo k1 ks a1 =
      let tj : t ≤ j = (free_more_at p tf call q deep f is spot t k).0 in
      alters_ok p tf call q deep f is (node typed.after) Nowhere t k at (step_operation so) u of (operand.Constant 1) a false j pc pc2 r ov (pos 1) w (λ y. ov) s
      now now4 ws s2 fr su hof i h1 refl ha (omega arith) hr fine (ranged u ov hov) one_fits (λ y. tt) eo
      (λ now5 hl more. step_known typed.after n s now now2 now5 ov r w ws s2 hov k1
      (λ x. more (place_calls a) t k now tj (ks (place_calls a) t k now tj x)) fine hr hl a1)
  step_by typed.after (To g) n pc pc2 r ov w s now now2 now4 ws s2 fr su i h1 ha hr fine hov eo k1 ks a1 =
      aside_ok (To g) n pc pc2 r ov w s now now2 now4 ws s2 fr su i h1 ha hr fine hov eo k1 ks a1
  step_by typed.after (If sense to) n pc pc2 r ov w s now now2 now4 ws s2 fr su i h1 ha hr fine hov eo k1 ks a1 =
      aside_ok (If sense to) n pc pc2 r ov w s now now2 now4 ws s2 fr su i h1 ha hr fine hov eo k1 ks a1

  step_last : (moment : Moment) (m : Mode) (n p2 p3 pc2 : ℕ) (r : Reference) (s : machine.State) (now now2 : Scratch) (ws : List Call) (s2 : machine.State)
      → IsFreeFor m t k → Suits p q f m u → One (function_at q f).code (instruction.Load u (target.Temporary j) spot) p2 p3
      → AltersBy (function_at q f).code moment (step_operation so) u of spot m j p3 pc2 → IsAt p q f spot r now2 s2
      → RefersAs (world p q f ws) r (type_of_place p tf a) → Fine (world p q f ws) s2 → Keeps (place_calls a) t k now now2
      → After (first_automatic q) (place_writes a) (record s { clock = n }) s2 → (ov : Option ℤ) → value_at s2.store r ≡ ov
      → Sim q 14 (60 * s2.clock + 100) s2.clock (here f p2 now2 ws s2) (Good p q f (node moment) m t k pc2 s now ws)
      (then_do (value_or_undefined (position_of a) ov s2) (λ old s.
      then_do (computed_at at (operated (step_operation so) of old (pos 1)) s) (λ w s.
      then_do (write p at r (converted u w) s) (λ new s. Goes (step_value moment old new) s))))
  step_last moment m n p2 p3 pc2 r s now now2 ws s2 fr su i1 i2 ha hr fine k1 a1 None ex = halts q (60 * s2.clock + 100) (here f p2 now2 ws s2) s2 refl refl
  step_last moment m n p2 p3 pc2 r s now now2 ws s2 fr su i1 i2 ha hr fine k1 a1 (Some ov) ex =
      by_result (operated (step_operation so) of ov (pos 1)) refl
    where
      by_result : (res : Result ℤ Undef) → operated (step_operation so) of ov (pos 1) ≡ res
          → Sim q 14 (60 * s2.clock + 100) s2.clock (here f p2 now2 ws s2) (Good p q f (node moment) m t k pc2 s now ws)
          (then_do (computed_at at res s2) (λ w s. then_do (write p at r (converted u w) s) (λ new s. Goes (step_value moment ov new) s)))
      by_result (Err act) er = halts q (60 * s2.clock + 100) (here f p2 now2 ws s2) s2 refl refl
      by_result (Ok w) er =
          let refers = scalar_refers (world p q f ws) r u (type_of_place p tf a) sc hr in
          let sub = tree_there (world p q f ws) r u [] s2 fine refers in
          let hov : IsValueOf u ov = value_in u [] sub.tree ov sub.has (ap value_of (sym sub.is) ∙ ex) in
          let now4 = put_scratch (target.Temporary j) (word_for ov) now2 in
          let Result2 = Good p q f (node moment) m t k pc2 s now ws in
          sim_after q 14 Result2 (60 * s2.clock + 100) s2.clock (60 * s2.clock + 80) s2.clock 1 7 (here f p2 now2 ws s2) (here f p3 now4 ws s2)
          (then_do (write p at r (converted u w) s2) (λ new s. Goes (step_value moment ov new) s))
          (does_load p q f u (target.Temporary j) spot r ov p2 p3 now2 ws s2 i1 ha refers ex tt) (omega arith) (omega arith)
          (step_by moment m n p3 pc2 r ov w s now now2 now4 ws s2 fr su i2 (set_same now2.temporaries j (word (word_for ov)))
          (found_beside p tf call q deep f is a false t k j (word_for ov) r now2 s2 (omega arith) ha) refers fine hov er k1
          (λ d y z old lo x. keeps_put (target.Temporary j) (word_for ov) d y z old now2 lo x) a1)

  pub step_memory : (moment : Moment) (m : Mode) (pc p1 p2 p3 pc2 : ℕ) → IsFreeFor m t k → Suits p q f m u
      → FindsDo p tf call q deep f is a false t k p1 p2 → One (function_at q f).code instruction.Nothing pc p1
      → One (function_at q f).code (instruction.Load u (target.Temporary j) spot) p2 p3
      → AltersBy (function_at q f).code moment (step_operation so) u of spot m j p3 pc2 → IntoDoes p call q deep f (node moment) m t k pc pc2
  step_memory moment m pc p1 p2 p3 pc2 fr su da i1 i2 i3 s now ws le fine =
      let Result2 = Good p q f (node moment) m t k pc2 s now ws in
      let last : Reference → machine.State → Run ℤ = λ r s. then_do (read (position_of a) r s) (λ old s.
      then_do (computed_at at (operated (step_operation so) of old (pos 1)) s) (λ w s.
      then_do (write p at r (converted u w) s) (λ new s. Goes (step_value moment old new) s))) in
      tick_in q 14 Result2 (here f pc now ws s) (here f p1 now ws s) s 0 (60 * s.clock) (λ s. then_do (find p call a s) last) (omega arith) refl refl
      (does_nothing q f pc p1 now ws s i1)
      (λ n lt.
      let s1 : machine.State = record s { clock = n } in
      sim_then q 40 14 (Found p tf call q deep f is a false t k p2 s1 now ws) Result2 (60 * n) 100 (60 * n + 60 + 0) n (here f p1 now ws s)
      (find p call a s1) last (omega arith) (omega arith)
      (da s1 now ws (omega (arith, le, lt)) (fine_later (world p q f ws) s n fine))
      (λ r s2 z lt2 fa.
      sim_move q 14 Result2 (60 * s2.clock + 100) s2.clock z (here f p2 fa.now ws s2) (last r s2) fa.at
      (step_last moment m n p2 p3 pc2 r s now fa.now ws s2 fr su i2 i3 fa.holds fa.refers fa.fine fa.keeps fa.after (value_at s2.store r) refl)))
