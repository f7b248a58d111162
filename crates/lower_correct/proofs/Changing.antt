-- The code follows compound assignments, increments and decrements.
use Rattle.std.proofs.Common.{◌≡◌, ℕ, ◌+◌, ◌*◌, ◌≤◌, List, Option, Some, None, Bool, true, false, ◌||◌, ℤ, pos, Result, Ok, Err, refl, sym, ap, ◌∙◌, subst, arith}
use Rattle.std.specs.Prelude.{nat_eq, nat_lt, length, option_map}
use Rattle.srcset.specs.declared.refusal.Pos.{Pos}
use Rattle.ctypes.specs.declared.types.IntType.{IntType}
use Rattle.ctypes.specs.declared.types.IntType.TheVariants as ty
use Rattle.ctypes.specs.declared.operators.BinOp.{BinOp}
use Rattle.ctypes.specs.declared.operators.Undef.{Undef}
use Rattle.ctypes.specs.declared.operators.Undef.TheVariants.{U7}
use Rattle.ctypes.specs.Types.{IsValueOf, converted}
use Rattle.ctypes.proofs.Uses.{converted_fits, converted_keeps}
use Rattle.typing_spec.specs.Operators.{operated}
use Rattle.typing_spec.specs.Program as typed
use Rattle.typing_spec.specs.Program.{Moment, Value as Expression}
use Rattle.csem.specs.Store.{Element, Reference, whole, put, value_at}
use Rattle.csem.specs.Machine as machine
use Rattle.csem.specs.Machine.{Run, Goes, Stops, then_do, choose, undefined, computed_at, read, write, value_or_undefined, stored}
use Rattle.csem.specs.Expressions.{Calling, evaluate, find}
use Rattle.tac_code.specs.declared.code.Operand.{Operand}
use Rattle.tac_code.specs.declared.code.Operand.TheVariants as operand
use Rattle.tac_code.specs.declared.code.Target.TheVariants as target
use Rattle.tac_code.specs.Code.{Program, function_at}
use Rattle.tac_code.specs.Run.{Call, State, running, word, word_for, number_of}
use Rattle.lower_wf.specs.Asked.{is_wide}
use Rattle.lower_correct.specs.Values.{calls, writes, writes_none, rests_in, extent, operand_of, constant_of, Mode, mode_of}
use Rattle.lower_correct.specs.Code.{Ends, Changes, Into}
use Rattle.lower_correct.proofs.Words.{Ranged, ranged, converts_again, wide_word, is_word}
use Rattle.lower_correct.proofs.Steps.{Reaches, reaches_on, Sim, sim_after, sim_then, sim_move, tick_in, find_in, halts}
use Rattle.lower_correct.proofs.Standing.{Scratch, here, put_scratch, set_same, put_state, Holds, does_nothing, does_convert, world, sizes}
use Rattle.lower_correct.proofs.Stores.{Fine, after_on, after_put, with_tree, fine_put, put_is_stored, read_back, read_fits, fine_later, after_since}
use Rattle.lower_correct.proofs.Goods.{Keeps, keeps_put, IsFreeFor, Known, Suits, Good, ends, mode_free, mode_suits, held, object_state}
use Rattle.lower_correct.proofs.Operations.{computes_do, operated_extent}
use Rattle.lower_correct.proofs.Leaves.{IsNumber, scalar_is, writes_itself, or_right, IntoDoes, takes_converted}

pub one_fits : Ranged (pos 1)
one_fits = ranged ty.Bool (pos 1) (converted_fits ty.Bool (pos 1))

module _ (p : typed.Program) (call : Calling) (q : Program) (deep f : ℕ) where
  -- object x was given the result of an operation, converted, perhaps by way of temporary t
  pub record Changed (x : ℕ) (u : IntType) (t pc2 : ℕ) (w : ℤ) (now : Scratch) (ws : List Call) (s : machine.State) (z : State) : Type 0 where
    pub j : ℕ
    pub c : ℕ
    pub now2 : Scratch
    pub word2 : ℕ
    pub reaches : Reaches q z j c (running (here f pc2 now2 ws (put_state q f (target.Object x) word2 s)))
    pub small : c ≤ 30
    pub keeps : (y : Bool) (i k : ℕ) (old : Scratch) → i ≤ t → Keeps y i k old now → Keeps y i k old now2
    pub is : number_of u word2 ≡ converted u w

  changes_do : (wide : Bool) (o : BinOp) (u of : IntType) (x : ℕ) (a : Operand) (t : ℕ) (old b w : ℤ) (pc pc2 : ℕ) (now : Scratch) (ws : List Call)
      (s : machine.State)
      → is_wide u ≡ wide → is_wide of ≡ true → IsNumber (function_at q f).objects x u → Ranged old → Ranged b
      → Changes (function_at q f).code wide o u of x a t pc pc2
      → Holds q f (operand.Object x) (word_for old) now s → Holds q f a (word_for b) now s → operated o of old b ≡ Ok w
      → Changed x u t pc2 w now ws s (here f pc now ws s)
  changes_do true o u of x a t old b w pc pc2 now ws s hu hof num ro rb i hx ha e =
      let rw_ = ranged _ w (operated_extent o of old b w e) in
      let c = computes_do p q f o of (target.Object x) (operand.Object x) a t old b w pc pc2 now ws s hof ro rb i hx ha e
      (u, scalar_is (function_at q f).objects x u num, is_word u w rw_ (wide_word u w hu)) in
      record {
        j = c.j;
        c = c.c;
        now2 = c.now2;
        word2 = word_for w;
        reaches = c.reaches;
        small = omega (arith, c.small);
        keeps = c.keeps;
        is =
            converts_again u w rw_;
      }
  changes_do false o u of x a t old b w pc pc2 now ws s hu hof num ro rb i hx ha e =
      let rw_ = ranged _ w (operated_extent o of old b w e) in
      let g = target.Temporary t in
      let c = computes_do p q f o of g (operand.Object x) a t old b w pc i.0 now ws s hof ro rb i.1 hx ha e tt in
      let now2 = put_scratch g (word_for w) c.now2 in
      let word2 = word_for (number_of u (word_for w)) in
      let same : number_of u (word_for w) ≡ converted u w = converts_again u w rw_ in
      let cw = converted u w in
      record {
        j = c.j + 1;
        c = c.c + 8;
        now2 = now2;
        word2 = word2;
        reaches = reaches_on q (here f pc now ws s) (here f i.0 now2 ws s) c.j c.c 1 8 (running (here f pc2 now2 ws (put_state q f (target.Object x) word2 s)))
            c.reaches
            (does_convert q f u (target.Object x) (operand.Temporary t) (word_for w) i.0 pc2 now2 ws s i.2 (set_same c.now2.temporaries t (word (word_for w)))
            (takes_converted p call q deep f (target.Object x) u w (scalar_is (function_at q f).objects x u num) rw_));
        small = omega (arith, c.small);
        keeps = λ y i k old h n. keeps_put g (word_for w) y i k old c.now2 h (c.keeps y i k old h n);
        is = ap (λ n. number_of u (word_for n)) same ∙ (converts_again u cw (ranged u cw (converted_fits u w)) ∙ converted_keeps u cw (converted_fits u w));
      }

  pub undefined_then : {B : Type 0} (Good2 : B → machine.State → State → Type 0) (hi lo : ℕ) (t : State) (b : Bool) (act : Undef) (at : Pos) (s : machine.State)
      (r : Run ℤ) (go : ℤ → machine.State → Run B)
      → t.history ≡ s.history → t.input ≡ s.input → Sim q 14 hi lo t Good2 (then_do r go) → Sim q 14 hi lo t Good2 (then_do (choose b (undefined act at s) r) go)
  undefined_then Good2 hi lo t true act at s r go e1 e2 l = halts q hi t s e1 e2
  undefined_then Good2 hi lo t false act at s r go e1 e2 l = l

  -- the object has its new value: on from there
  write_in : (Good2 : ℤ → machine.State → State → Type 0) (go : ℤ → machine.State → Run ℤ) (at : Pos) (x : ℕ) (u : IntType) (pc hi b w : ℕ) (now : Scratch)
      (ws : List Call) (v : ℤ) (s : machine.State)
      → IsNumber (function_at q f).objects x u → s.base ≡ b → Fine (world p q f ws) s → number_of u w ≡ v → IsValueOf u v
      → (Fine (world p q f ws) (with_tree x (Element (Some v)) s)
      → value_at (put s.store (whole (s.base + x)) (Element (Some v))) (whole (s.base + x)) ≡ Some v
      → Sim q 14 hi s.clock (here f pc now ws (with_tree x (Element (Some v)) s)) Good2 (go v (with_tree x (Element (Some v)) s)))
      → Sim q 14 hi s.clock (here f pc now ws (put_state q f (target.Object x) w s)) Good2 (then_do (write p at (whole (b + x)) v s) go)
  write_in Good2 go at x u pc hi b w now ws v s num eb fine ew hv next =
      let s3 = with_tree x (Element (Some v)) s in
      let z = here f pc now ws (put_state q f (target.Object x) w s) in
      let there = read_back (world p q f ws) x num.type v s num.at fine in
      let fine3 = fine_put (world p q f ws) x num.type v s num.at num.lengths (subst (λ y. IsValueOf y v) (sym num.element) hv) fine in
      let now_at : z ≡ here f pc now ws s3 = ap (here f pc now ws) (object_state p q f x u w v s (scalar_is (function_at q f).objects x u num) ew) in
      subst (λ n. Sim q 14 hi s.clock z Good2 (then_do (write p at (whole (n + x)) v s) go)) eb
      (undefined_then Good2 hi s.clock z (nat_lt (s.base + x) (length p.literals)) U7 at s (Goes v (stored (whole (s.base + x)) v s)) go
      (ap (λ y. y.history) now_at) (ap (λ y. y.input) now_at)
      (subst (λ y. Sim q 14 hi s.clock z Good2 (go v y)) (put_is_stored (world p q f ws) x num.type v s num.at num.lengths fine)
      (sim_move q 14 Good2 hi s.clock z (here f pc now ws s3) (go v s3) now_at (next fine3 there))))

  -- the object changes: on from there
  pub change_in : (Good2 : ℤ → machine.State → State → Type 0) (go : ℤ → machine.State → Run ℤ) (at : Pos) (o : BinOp) (x : ℕ) (u of : IntType) (a : Operand)
      (t pc pc2 hi top b : ℕ) (old v : ℤ) (now : Scratch) (ws : List Call) (s : machine.State) (r : Result ℤ Undef)
      → hi + 30 ≤ top → operated o of old v ≡ r → is_wide of ≡ true → IsNumber (function_at q f).objects x u → s.base ≡ b → Fine (world p q f ws) s
      → Ranged v
      → Changes (function_at q f).code (is_wide u) o u of x a t pc pc2 → value_at s.store (whole (s.base + x)) ≡ Some old → Holds q f a (word_for v) now s
      → ((w : ℤ) (now2 : Scratch) → ((y : Bool) (i k : ℕ) (before : Scratch) → i ≤ t → Keeps y i k before now → Keeps y i k before now2)
      → Fine (world p q f ws) (with_tree x (Element (Some (converted u w))) s)
      → value_at (put s.store (whole (s.base + x)) (Element (Some (converted u w)))) (whole (s.base + x)) ≡ Some (converted u w)
      → Sim q 14 hi s.clock (here f pc2 now2 ws (with_tree x (Element (Some (converted u w))) s)) Good2
      (go (converted u w) (with_tree x (Element (Some (converted u w))) s)))
      → Sim q 14 top s.clock (here f pc now ws s) Good2 (then_do (computed_at at r s) (λ w s. then_do (write p at (whole (b + x)) (converted u w) s) go))
  change_in Good2 go at o x u of a t pc pc2 hi top b old v now ws s (Err act) h1 e hof num eb fine rv i ex ha next =
      halts q top (here f pc now ws s) s refl refl
  change_in Good2 go at o x u of a t pc pc2 hi top b old v now ws s (Ok w) h1 e hof num eb fine rv i ex ha next =
      let ro = ranged num.type.element old (read_fits (world p q f ws) x num.type old s num.at fine ex) in
      let c = changes_do (is_wide u) o u of x a t old v w pc pc2 now ws s refl hof num ro rv i (ap (option_map (λ y. word (word_for y))) ex) ha e in
      sim_after q 14 Good2 top s.clock hi s.clock c.j c.c (here f pc now ws s) (here f pc2 c.now2 ws (put_state q f (target.Object x) c.word2 s))
      (then_do (write p at (whole (b + x)) (converted u w) s) go)
      c.reaches (omega (arith, c.small, h1)) (omega arith)
      (write_in Good2 go at x u pc2 hi b c.word2 c.now2 ws (converted u w) s num eb fine c.is (converted_fits u w)
      (λ fine3 there. next w c.now2 c.keeps fine3 there))

  -- ---- compound assignment (6.5.16.2)

  pub goes_same : (Good2 : ℤ → machine.State → State → Type 0) (hi lo : ℕ) (t : State) (r : Run ℤ) → Sim q 14 hi lo t Good2 (then_do r (λ v s. Goes v s))
      → Sim q 14 hi lo t Good2 r
  goes_same Good2 hi lo t (Goes v s) l = l
  goes_same Good2 hi lo t (Stops machine.TicksUsed s) l = l
  goes_same Good2 hi lo t (Stops (machine.Ended status) s) l = l
  goes_same Good2 hi lo t (Stops (machine.Undefined act at) s) l = l

  module _ (at at2 : Pos) (o : BinOp) (u of : IntType) (x : ℕ) (e : Expression) (m : Mode) (t k : ℕ) (hof : is_wide of ≡ true)
      (num : IsNumber (function_at q f).objects x u) (fr : IsFreeFor m t k) (su : Suits p q f m u) where
    compound_last : (n p2 p3 pc2 : ℕ) (now now1 : Scratch) (ws : List Call) (s : machine.State)
        → Changes (function_at q f).code (is_wide u) o u of x (operand_of e t k) t p2 p3 → Ends (function_at q f).code m (operand.Object x) p3 pc2
        → (v : ℤ) (s2 : machine.State) → Holds q f (operand_of e t k) (word_for v) now1 s2
        → Known (world p q f ws) e t k (record s { clock = n }) now v s2 now1
        → (old : Option ℤ) → value_at s2.store (whole (s2.base + x)) ≡ old
        → Sim q 14 (60 * s2.clock + 134) s2.clock (here f p2 now1 ws s2)
        (Good p q f (typed.compound at o u of (typed.named at2 (typed.automatic x)) e) m t k pc2 s now ws)
        (then_do (value_or_undefined at2 old s2)
        (λ old s. then_do (computed_at at (operated o of old v) s) (λ w s. write p at (whole (s2.base + x)) (converted u w) s)))
    compound_last n p2 p3 pc2 now now1 ws s i i2 v s2 h known None ex = halts q (60 * s2.clock + 134) (here f p2 now1 ws s2) s2 refl refl
    compound_last n p2 p3 pc2 now now1 ws s i i2 v s2 h known (Some old) ex = by_result (operated o of old v) refl
      where
        by_result : (r : Result ℤ Undef) → operated o of old v ≡ r
            → Sim q 14 (60 * s2.clock + 134) s2.clock (here f p2 now1 ws s2)
            (Good p q f (typed.compound at o u of (typed.named at2 (typed.automatic x)) e) m t k pc2 s now ws)
            (then_do (computed_at at r s2) (λ w s. write p at (whole (s2.base + x)) (converted u w) s))
        by_result (Err act) er = halts q (60 * s2.clock + 134) (here f p2 now1 ws s2) s2 refl refl
        by_result (Ok w) er =
            let Result2 = Good p q f (typed.compound at o u of (typed.named at2 (typed.automatic x)) e) m t k pc2 s now ws in
            goes_same Result2 (60 * s2.clock + 134) s2.clock (here f p2 now1 ws s2) (write p at (whole (s2.base + x)) (converted u w) s2)
            (change_in Result2 (λ v s. Goes v s) at o x u of (operand_of e t k) t p2 p3 (60 * s2.clock + 104) (60 * s2.clock + 134) s2.base old v now1 ws s2
            (Ok w) (omega arith) er hof num refl known.fine (ranged (extent e) v known.value) i ex h
            (λ w2 now2 keeps fine3 there.
            ends p q f (typed.compound at o u of (typed.named at2 (typed.automatic x)) e) m t k (operand.Object x) p3 pc2 (60 * s2.clock + 104) s now now2 ws
            (converted u w2) (with_tree x (Element (Some (converted u w2))) s2) fr su i2
            (ap (option_map (λ y. word (word_for y))) there) (omega arith)
            (record {
              keeps = keeps (calls e) t k now (let le : t ≤ t = omega arith in le) known.keeps;
              fine = fine3;
              value = converted_fits u w2;
              after = after_on (λ y. nat_eq x y || writes e y) (writes e) (λ y. nat_eq x y || writes e y) s s2
                  (with_tree x (Element (Some (converted u w2))) s2) (λ y h. or_right (nat_eq x y) (writes e y) h) (λ y h. h)
                  (after_since (writes e) s s2 n known.after)
                  (after_put (λ y. nat_eq x y || writes e y) x (Element (Some (converted u w2))) s2 (writes_itself x (writes e x)));
              rests = there;
              constant = tt;
            })))

    pub compound_does : (pc pc2 : ℕ) → ((n : Mode) (a z : ℕ) → IsFreeFor n t k → Suits p q f n (extent e) → Into (function_at q f).code (sizes p f) e n t k a z
        → IntoDoes p call q deep f e n t k a z)
        → Into (function_at q f).code (sizes p f) (typed.compound at o u of (typed.named at2 (typed.automatic x)) e) m t k pc pc2
        → IntoDoes p call q deep f (typed.compound at o u of (typed.named at2 (typed.automatic x)) e) m t k pc pc2
    compound_does pc pc2 de h s now ws le fine =
        let Result2 = Good p q f (typed.compound at o u of (typed.named at2 (typed.automatic x)) e) m t k pc2 s now ws in
        let a = operand_of e t k in
        let last : Reference → ℤ → machine.State
        → Run ℤ = λ r v s. then_do (read at2 r s) (λ old s. then_do (computed_at at (operated o of old v) s) (λ w s. write p at r (converted u w) s)) in
        tick_in q 14 Result2 (here f pc now ws s) (here f h.0 now ws s) s 0 (60 * s.clock)
        (λ s. then_do (find p call (typed.named at2 (typed.automatic x)) s) (λ r s. then_do (evaluate p call e s) (last r)))
        (omega arith) refl refl (does_nothing q f pc h.0 now ws s h.4)
        (λ n lt. find_in q 14 Result2 (here f h.0 now ws s) (here f h.1 now ws s) (record s { clock = n }) 60 (60 * n + 60 + 0)
        (λ s. Goes (whole (s.base + x)) s) (λ r s. then_do (evaluate p call e s) (last r)) (omega arith) refl refl (does_nothing q f h.0 h.1 now ws s h.5)
        (λ n2 lt2.
        let s2 : machine.State = record s { clock = n2 } in
        sim_then q 14 14 (Good p q f e (mode_of a) t k h.2 s2 now ws) Result2 (60 * n2) 134 (60 * n2 + 60 + 60) n2 (here f h.1 now ws s) (evaluate p call e s2)
        (last (whole (s.base + x))) (omega arith) (omega arith)
        (de (mode_of a) h.1 h.2 (mode_free p q f (constant_of e) (rests_in e) writes_none false t k)
        (mode_suits p q f (constant_of e) (rests_in e) writes_none false t k (extent e)) h.6 s2 now ws (omega (arith, le, lt, lt2))
        (fine_later (world p q f ws) s n2 fine))
        (λ v s3 z lt3 good.
        let hd = held p q f e writes_none false t k h.2 s2 now ws v s3 z good in
        sim_move q 14 Result2 (60 * s3.clock + 134) s3.clock z (here f h.2 hd.now ws s3) (last (whole (s.base + x)) v s3) hd.at
        (subst (λ b. Sim q 14 (60 * s3.clock + 134) s3.clock (here f h.2 hd.now ws s3) Result2 (last (whole (b + x)) v s3)) hd.known.after.base
        (compound_last n2 h.2 h.3 pc2 now hd.now ws s h.7 h.8 v s3 hd.holds hd.known (value_at s3.store (whole (s3.base + x))) refl)))))
