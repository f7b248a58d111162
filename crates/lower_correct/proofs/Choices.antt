-- The code follows commas, conjunctions, disjunctions and choices, if it follows their parts.
use Rattle.std.proofs.Common.{◌≡◌, ℕ, ◌+◌, ◌*◌, ◌≤◌, List, None, Bool, true, false, not, ℤ, pos, refl, sym, ap, ◌∙◌, subst, arith}
use Rattle.ctypes.specs.declared.types.IntType.TheVariants as ty
use Rattle.ctypes.specs.Types.{IsValueOf, truth, of_truth}
use Rattle.typing_spec.specs.Program as typed
use Rattle.typing_spec.specs.Program.{Value as Expression}
use Rattle.csem.specs.Machine as machine
use Rattle.csem.specs.Machine.{Run, Goes, Stops, then_do, choose, computed_at}
use Rattle.csem.specs.Expressions.{Calling, evaluate}
use Rattle.tac_code.specs.declared.code.Operand.TheVariants as operand
use Rattle.tac_code.specs.declared.code.Instruction.TheVariants as instruction
use Rattle.tac_code.specs.Code.{Program, function_at}
use Rattle.tac_code.specs.Run.{Call, State, running, word_for}
use Rattle.lower_correct.specs.Values.{calls, writes, writes_none, rests_in, extent, constant_of, Mode, Nowhere, To, If, target_of}
use Rattle.lower_correct.specs.Code.{One, Ends, Follows, Truths, zero_word}
use Rattle.lower_correct.proofs.Words.{truth_of, truth_fits}
use Rattle.lower_correct.proofs.Steps.{reaches_on, stays, GoesTo, goes, Sim, sim_then, sim_map, sim_move, tick_in}
use Rattle.lower_correct.proofs.Standing.{Scratch, here, put_scratch, put_state, does_nothing, does_move, does_jump, world}
use Rattle.lower_correct.proofs.Stores.{World, Fine, after_on, after_none, fine_later, after_since}
use Rattle.lower_correct.proofs.Goods.{keeps_on, IsFreeFor, Has, meets, RestsIn, IsConstant, Known, Suits, takes, target_suits, Good, ends, follows}
use Rattle.lower_correct.proofs.Leaves.{or_left, or_right, IntoDoes}

choose_not : (b : Bool) (x y : ℕ) → choose (not b) x y ≡ choose b y x
choose_not true x y = refl
choose_not false x y = refl

chosen_false : (sense : Bool) (x y : ℕ) → choose sense y x ≡ choose (meets sense false) x y
chosen_false true x y = refl
chosen_false false x y = refl

chosen_true : (sense : Bool) (x y : ℕ) → choose sense x y ≡ choose (meets sense true) x y
chosen_true true x y = refl
chosen_true false x y = refl

module _ (p : typed.Program) (call : Calling) (q : Program) (deep f : ℕ) where
  -- a value that for this use is as good as another
  abbrev pub IsSameFor : Mode → ℤ → ℤ → Type 0
  IsSameFor Nowhere v w = Unit {0}
  IsSameFor (To g) v w = word_for v ≡ word_for w
  IsSameFor (If sense to) v w = truth v ≡ truth w

  pub remode : (e e2 : Expression) (m : Mode) (t k pc2 : ℕ) (before before2 : machine.State) (old old2 : Scratch) (ws : List Call) (v v2 : ℤ)
      (s : machine.State) (z : State)
      → IsSameFor m v2 v → ((now : Scratch) → Known (world p q f ws) e t k before old v s now
      → Known (world p q f ws) e2 t k before2 old2 v2 s now)
      → Good p q f e m t k pc2 before old ws v s z → Good p q f e2 m t k pc2 before2 old2 ws v2 s z
  remode e e2 Nowhere t k pc2 before before2 old old2 ws v v2 s z h next g = record { now = g.now; at = g.at; has = tt; known = next g.now g.known }
  remode e e2 (To y) t k pc2 before before2 old old2 ws v v2 s z h next g = record {
    now = g.now;
    at = g.at ∙ ap (λ w. here f pc2 g.now ws (put_state q f y w s)) (sym h);
    has = subst (λ w. Has (To y) w g.now) (sym h) g.has;
    known = next g.now g.known;
  }
  remode e e2 (If sense to) t k pc2 before before2 old old2 ws v v2 s z h next g = record {
    now = g.now;
    at = g.at ∙ ap (λ b. here f (choose (meets sense b) to pc2) g.now ws s) (sym h);
    has = tt;
    known = next g.now g.known;
  }

  -- one part was evaluated, or two, one after the other
  pub known_more : {W : World} (e a : Expression) (t k n : ℕ) (s : machine.State) (now now2 : Scratch) (v z : ℤ) (s2 : machine.State) → (calls e ≡ false → calls a ≡ false)
      → ((x : ℕ) → writes e x ≡ false → writes a x ≡ false)
      → rests_in e ≡ None → constant_of e ≡ None → IsValueOf (extent e) z → Known W a t k (record s { clock = n }) now v s2 now2
      → Known W e t k s now z s2 now2
  known_more e a t k n s now now2 v z s2 hc hw hr hk hv known = record {
    keeps = record { temporaries = λ h i lt. known.keeps.temporaries (hc h) i lt; kept = known.keeps.kept };
    fine = known.fine;
    value = hv;
    after = after_on (writes e) (writes a) writes_none s s2 s2 hw (λ x h. refl) (after_since (writes a) s s2 n known.after) (after_none writes_none s2);
    rests = subst (λ r. RestsIn r z s2) (sym hr) tt;
    constant = subst (λ r. IsConstant r z) (sym hk) tt;
  }

  pub known_join : {W : World} (e a b : Expression) (t k n : ℕ) (s : machine.State) (now now2 now3 : Scratch) (v w z : ℤ) (s2 s3 : machine.State)
      → (calls e ≡ false → calls a ≡ false) → (calls e ≡ false → calls b ≡ false)
      → ((x : ℕ) → writes e x ≡ false → writes a x ≡ false) → ((x : ℕ) → writes e x ≡ false → writes b x ≡ false) → rests_in e ≡ None → constant_of e ≡ None
      → IsValueOf (extent e) z
      → Known W a t k (record s { clock = n }) now v s2 now2 → Known W b t k s2 now2 w s3 now3
      → Known W e t k s now z s3 now3
  known_join e a b t k n s now now2 now3 v w z s2 s3 hca hcb hwa hwb hr hk hv ka kb =
      let lt : t ≤ t = omega arith in
      let lk : k ≤ k = omega arith in
      record {
        keeps = keeps_on (calls e) (calls a) (calls b) t k t k t k now now2 now3 hca hcb lt lt lk lk ka.keeps kb.keeps;
        fine = kb.fine;
        value = hv;
        after = after_on (writes e) (writes a) (writes b) s s2 s3 hwa hwb (after_since (writes a) s s2 n ka.after) kb.after;
        rests = subst (λ r. RestsIn r z s3) (sym hr) tt;
        constant = subst (λ r. IsConstant r z) (sym hk) tt;
      }

  same_for : (m : Mode) (v : ℤ) → IsSameFor m v v
  same_for Nowhere v = tt
  same_for (To g) v = refl
  same_for (If sense to) v = refl

  -- ---- the comma operator (6.5.17), and discarded values

  pub sequence_does : (a b : Expression) (m : Mode) (t k pc p1 p2 pc2 : ℕ) → One (function_at q f).code instruction.Nothing pc p1
      → IntoDoes p call q deep f a Nowhere t k p1 p2
      → IntoDoes p call q deep f b m t k p2 pc2 → IntoDoes p call q deep f (typed.sequence a b) m t k pc pc2
  sequence_does a b m t k pc p1 p2 pc2 o da db s now ws le fine =
      let e = typed.sequence a b in
      let Result2 = Good p q f e m t k pc2 s now ws in
      let last : ℤ → machine.State → Run ℤ = λ v s. evaluate p call b s in
      tick_in q 14 Result2 (here f pc now ws s) (here f p1 now ws s) s 0 (60 * s.clock) (λ s. then_do (evaluate p call a s) last) (omega arith) refl refl
      (does_nothing q f pc p1 now ws s o)
      (λ n lt.
      let s1 : machine.State = record s { clock = n } in
      sim_then q 14 14 (Good p q f a Nowhere t k p2 s1 now ws) Result2 (60 * n) 74 (60 * n + 60 + 0) n (here f p1 now ws s) (evaluate p call a s1) last
      (omega arith) (omega arith)
      (da s1 now ws (omega (arith, le, lt)) (fine_later (world p q f ws) s n fine))
      (λ v s2 z lt2 ga. sim_move q 14 Result2 (60 * s2.clock + 74) s2.clock z (here f p2 ga.now ws s2) (evaluate p call b s2) ga.at
      (sim_map q 14 14 (Good p q f b m t k pc2 s2 ga.now ws) Result2 (60 * s2.clock) (60 * s2.clock + 74) s2.clock (here f p2 ga.now ws s2) (evaluate p call b s2)
      (omega arith) (omega arith)
      (db s2 ga.now ws (omega (arith, le, lt, lt2)) ga.known.fine)
      (λ w s3 z3 gb. remode b e m t k pc2 s2 s ga.now now ws w w s3 z3 (same_for m w)
      (λ now3 kb. known_join e a b t k n s now ga.now now3 v w w s2 s3 (or_left (calls a) (calls b)) (or_right (calls a) (calls b))
      (λ x h. or_left (writes a x) (writes b x) h) (λ x h. or_right (writes a x) (writes b x) h)
      refl refl kb.value ga.known kb) gb))))

  pub discarded_does : (e : Expression) (m : Mode) (t k pc p1 p2 pc2 : ℕ) → One (function_at q f).code instruction.Nothing pc p1
      → IntoDoes p call q deep f e Nowhere t k p1 p2
      → IsFreeFor m t k → Suits p q f m ty.Bool → Ends (function_at q f).code m zero_word p2 pc2 → IntoDoes p call q deep f (typed.discarded e) m t k pc pc2
  discarded_does e m t k pc p1 p2 pc2 o de fr su i s now ws le fine =
      let a = typed.discarded e in
      let Result2 = Good p q f a m t k pc2 s now ws in
      let last : ℤ → machine.State → Run ℤ = λ v s. Goes (pos 0) s in
      tick_in q 14 Result2 (here f pc now ws s) (here f p1 now ws s) s 0 (60 * s.clock) (λ s. then_do (evaluate p call e s) last) (omega arith) refl refl
      (does_nothing q f pc p1 now ws s o)
      (λ n lt.
      let s1 : machine.State = record s { clock = n } in
      sim_then q 14 14 (Good p q f e Nowhere t k p2 s1 now ws) Result2 (60 * n) 74 (60 * n + 60 + 0) n (here f p1 now ws s) (evaluate p call e s1) last
      (omega arith) (omega arith)
      (de s1 now ws (omega (arith, le, lt)) (fine_later (world p q f ws) s n fine))
      (λ v s2 z lt2 g. sim_move q 14 Result2 (60 * s2.clock + 74) s2.clock z (here f p2 g.now ws s2) (Goes (pos 0) s2) g.at
      (ends p q f a m t k zero_word p2 pc2 (60 * s2.clock + 74) s now g.now ws (pos 0) s2 fr su i refl (omega arith)
      (known_more a e t k n s now g.now v (pos 0) s2 (λ h. h) (λ x h. h) refl refl (truth_fits false) g.known))))

  -- ---- truths that become numbers

  truths_end : (e : Expression) (m : Mode) (t k : ℕ) (b : Bool) (pc other pc2 hi : ℕ) (before : machine.State) (old now : Scratch) (ws : List Call)
      (s : machine.State) → IsFreeFor m t k → Suits p q f m ty.Bool
      → Follows (function_at q f).code m t pc2 pc2 → Truths (function_at q f).code (target_of m t) pc other pc2 → 60 * s.clock + 30 ≤ hi
      → Known (world p q f ws) e t k before old (of_truth b) s now
      → GoesTo q 14 hi s.clock (here f (choose b pc other) now ws s) (Good p q f e m t k pc2 before old ws (of_truth b)) s
  truths_end e m t k true pc other pc2 hi before old now ws s fr su fo i h1 known =
      let g = target_of m t in
      let now2 = put_scratch g 1 now in
      let s2 = put_state q f g 1 s in
      let l = follows p q f e m t k pc2 pc2 (60 * s.clock + 22) before old now ws (pos 1) s fr fo (omega arith) known in
      goes q 14 (Good p q f e m t k pc2 before old ws (pos 1)) hi s.clock (1 + (1 + l.j)) (6 + (1 + l.c)) (here f pc now ws s) l.u s
      (reaches_on q (here f pc now ws s) (here f i.0 now2 ws s2) 1 6 (1 + l.j) (1 + l.c) (running l.u)
      (does_move q f g (operand.Constant 1) 1 pc i.0 now ws s i.1 refl (takes p q f g ty.Bool (pos 1) (target_suits p q f m t ty.Bool su) (truth_fits true)))
      (reaches_on q (here f i.0 now2 ws s2) (here f pc2 now2 ws s2) 1 1 l.j l.c (running l.u) (does_jump q f pc2 i.0 other now2 ws s2 i.2) l.reaches))
      (omega (arith, l.within, h1)) (omega arith) l.good
  truths_end e m t k false pc other pc2 hi before old now ws s fr su fo i h1 known =
      let g = target_of m t in
      let now2 = put_scratch g 0 now in
      let s2 = put_state q f g 0 s in
      let l = follows p q f e m t k pc2 pc2 (60 * s.clock + 22) before old now ws (pos 0) s fr fo (omega arith) known in
      goes q 14 (Good p q f e m t k pc2 before old ws (pos 0)) hi s.clock (1 + l.j) (6 + l.c) (here f other now ws s) l.u s
      (reaches_on q (here f other now ws s) (here f pc2 now2 ws s2) 1 6 l.j l.c (running l.u)
      (does_move q f g zero_word 0 other pc2 now ws s i.3 refl (takes p q f g ty.Bool (pos 0) (target_suits p q f m t ty.Bool su) (truth_fits false))) l.reaches)
      (omega (arith, l.within, h1)) (omega arith) l.good

  -- the second part, whose truth is the value
  second_value : (e b : Expression) (m : Mode) (t k p2 pc other pc2 : ℕ) (before : machine.State) (old now2 : Scratch) (ws : List Call) (s2 : machine.State)
      → extent e ≡ ty.Bool → IsFreeFor m t k → Suits p q f m ty.Bool
      → Follows (function_at q f).code m t pc2 pc2 → Truths (function_at q f).code (target_of m t) pc other pc2 → s2.clock ≤ deep
      → Fine (world p q f ws) s2 → IntoDoes p call q deep f b (If false other) t k p2 pc
      → ((w : ℤ) (s3 : machine.State) (now3 : Scratch) → Known (world p q f ws) b t k s2 now2 w s3 now3
      → Known (world p q f ws) e t k before old (of_truth (truth w)) s3 now3)
      → Sim q 14 (60 * s2.clock + 74) s2.clock (here f p2 now2 ws s2) (Good p q f e m t k pc2 before old ws)
      (then_do (evaluate p call b s2) (λ w s. Goes (of_truth (truth w)) s))
  second_value e b m t k p2 pc other pc2 before old now2 ws s2 he fr su fo i le fine db known =
      let Result2 = Good p q f e m t k pc2 before old ws in
      sim_then q 14 14 (Good p q f b (If false other) t k pc s2 now2 ws) Result2 (60 * s2.clock) 74 (60 * s2.clock + 74) s2.clock (here f p2 now2 ws s2)
      (evaluate p call b s2) (λ w s. Goes (of_truth (truth w)) s) (omega arith) (omega arith)
      (db s2 now2 ws le fine)
      (λ w s3 z lt g. sim_move q 14 Result2 (60 * s3.clock + 74) s3.clock z (here f (choose (truth w) pc other) g.now ws s3) (Goes (of_truth (truth w)) s3)
      (g.at ∙ ap (λ n. here f n g.now ws s3) (choose_not (truth w) other pc))
      (truths_end e m t k (truth w) pc other pc2 (60 * s3.clock + 74) before old g.now ws s3 fr su fo i (omega arith) (known w s3 g.now g.known)))

  -- the second part as a condition
  second_jumps : (e b : Expression) (sense : Bool) (to t k p2 pc2 : ℕ) (before : machine.State) (old now2 : Scratch) (ws : List Call) (s2 : machine.State)
      → s2.clock ≤ deep → Fine (world p q f ws) s2
      → IntoDoes p call q deep f b (If sense to) t k p2 pc2
      → ((w : ℤ) (s3 : machine.State) (now3 : Scratch) → Known (world p q f ws) b t k s2 now2 w s3 now3
      → Known (world p q f ws) e t k before old (of_truth (truth w)) s3 now3)
      → Sim q 14 (60 * s2.clock + 74) s2.clock (here f p2 now2 ws s2) (Good p q f e (If sense to) t k pc2 before old ws)
      (then_do (evaluate p call b s2) (λ w s. Goes (of_truth (truth w)) s))
  second_jumps e b sense to t k p2 pc2 before old now2 ws s2 le fine db known =
      let Result2 = Good p q f e (If sense to) t k pc2 before old ws in
      sim_then q 14 14 (Good p q f b (If sense to) t k pc2 s2 now2 ws) Result2 (60 * s2.clock) 74 (60 * s2.clock + 74) s2.clock (here f p2 now2 ws s2)
      (evaluate p call b s2) (λ w s. Goes (of_truth (truth w)) s) (omega arith) (omega arith)
      (db s2 now2 ws le fine)
      (λ w s3 z lt g. goes q 14 (Result2 (of_truth (truth w))) (60 * s3.clock + 74) s3.clock 0 0 z z s3 (stays q z) (omega arith) (omega arith)
      (remode b e (If sense to) t k pc2 s2 before now2 old ws w (of_truth (truth w)) s3 z (truth_of (truth w)) (λ now3 kb. known w s3 now3 kb) g))

  -- ---- `&&` (6.5.13) and `||` (6.5.14)

  module _ (a b : Expression) (t k : ℕ) where
    join_both : {W : World} (n : ℕ) (s : machine.State) (now now2 now3 : Scratch) (v w : ℤ) (s2 s3 : machine.State)
        → Known W a t k (record s { clock = n }) now v s2 now2
        → Known W b t k s2 now2 w s3 now3 → Known W (typed.both_true a b) t k s now (of_truth (truth w)) s3 now3
    join_both n s now now2 now3 v w s2 s3 ka kb =
        known_join (typed.both_true a b) a b t k n s now now2 now3 v w (of_truth (truth w)) s2 s3 (or_left (calls a) (calls b)) (or_right (calls a) (calls b))
        (λ x h. or_left (writes a x) (writes b x) h) (λ x h. or_right (writes a x) (writes b x) h) refl refl (truth_fits (truth w)) ka kb

    join_one : {W : World} (n : ℕ) (s : machine.State) (now now2 now3 : Scratch) (v w : ℤ) (s2 s3 : machine.State)
        → Known W a t k (record s { clock = n }) now v s2 now2
        → Known W b t k s2 now2 w s3 now3 → Known W (typed.one_true a b) t k s now (of_truth (truth w)) s3 now3
    join_one n s now now2 now3 v w s2 s3 ka kb =
        known_join (typed.one_true a b) a b t k n s now now2 now3 v w (of_truth (truth w)) s2 s3 (or_left (calls a) (calls b)) (or_right (calls a) (calls b))
        (λ x h. or_left (writes a x) (writes b x) h) (λ x h. or_right (writes a x) (writes b x) h) refl refl (truth_fits (truth w)) ka kb

    first_both : {W : World} (n : ℕ) (s : machine.State) (now now2 : Scratch) (v : ℤ) (s2 : machine.State)
        → Known W a t k (record s { clock = n }) now v s2 now2
        → Known W (typed.both_true a b) t k s now (pos 0) s2 now2
    first_both n s now now2 v s2 ka =
        known_more (typed.both_true a b) a t k n s now now2 v (pos 0) s2 (or_left (calls a) (calls b)) (λ x h. or_left (writes a x) (writes b x) h) refl refl
        (truth_fits false) ka

    first_one : {W : World} (n : ℕ) (s : machine.State) (now now2 : Scratch) (v : ℤ) (s2 : machine.State)
        → Known W a t k (record s { clock = n }) now v s2 now2
        → Known W (typed.one_true a b) t k s now (pos 1) s2 now2
    first_one n s now now2 v s2 ka =
        known_more (typed.one_true a b) a t k n s now now2 v (pos 1) s2 (or_left (calls a) (calls b)) (λ x h. or_left (writes a x) (writes b x) h) refl refl
        (truth_fits true) ka

    -- the first part, and the continuation by its truth
    pub first_part : (e : Expression) (m m1 : Mode) (pc p1 p2 pc2 : ℕ) (last : ℤ → machine.State → Run ℤ) (s : machine.State) (now : Scratch) (ws : List Call)
        → One (function_at q f).code instruction.Nothing pc p1
        → IntoDoes p call q deep f a m1 t k p1 p2 → s.clock ≤ deep → Fine (world p q f ws) s
        → ((n : ℕ) (v : ℤ) (s2 : machine.State) (z : State) → s2.clock ≤ deep → Good p q f a m1 t k p2 (record s { clock = n }) now ws v s2 z
        → Sim q 14 (60 * s2.clock + 74) s2.clock z (Good p q f e m t k pc2 s now ws) (last v s2))
        → Sim q 14 (60 * s.clock) s.clock (here f pc now ws s) (Good p q f e m t k pc2 s now ws) (machine.tick s (λ s. then_do (evaluate p call a s) last))
    first_part e m m1 pc p1 p2 pc2 last s now ws o da le fine next =
        tick_in q 14 (Good p q f e m t k pc2 s now ws) (here f pc now ws s) (here f p1 now ws s) s 0 (60 * s.clock) (λ s. then_do (evaluate p call a s) last)
        (omega arith) refl refl (does_nothing q f pc p1 now ws s o)
        (λ n lt.
        let s1 : machine.State = record s { clock = n } in
        sim_then q 14 14 (Good p q f a m1 t k p2 s1 now ws) (Good p q f e m t k pc2 s now ws) (60 * n) 74 (60 * n + 60 + 0) n (here f p1 now ws s)
        (evaluate p call a s1) last (omega arith) (omega arith)
        (da s1 now ws (omega (arith, le, lt)) (fine_later (world p q f ws) s n fine))
        (λ v s2 z lt2 g. next n v s2 z (omega (arith, le, lt, lt2)) g))

    pub both_value : (m : Mode) (pc p1 p2 p3 other pc2 : ℕ) → IsFreeFor m t k → Suits p q f m ty.Bool → Follows (function_at q f).code m t pc2 pc2
        → One (function_at q f).code instruction.Nothing pc p1
        → IntoDoes p call q deep f a (If false other) t k p1 p2 → IntoDoes p call q deep f b (If false other) t k p2 p3
        → Truths (function_at q f).code (target_of m t) p3 other pc2
        → IntoDoes p call q deep f (typed.both_true a b) m t k pc pc2
    both_value m pc p1 p2 p3 other pc2 fr su fo o da db i s now ws le fine =
        first_part (typed.both_true a b) m (If false other) pc p1 p2 pc2
        (λ v s. choose (truth v) (then_do (evaluate p call b s) (λ w s. Goes (of_truth (truth w)) s)) (Goes (pos 0) s)) s now ws o da le fine
        (λ n v s2 z le2 g. rest (truth v) n v s2 z le2 g.now g.at g.known)
      where
        rest : (c : Bool) (n : ℕ) (v : ℤ) (s2 : machine.State) (z : State) → s2.clock ≤ deep → (now2 : Scratch)
            → z ≡ here f (choose (not c) other p2) now2 ws s2 → Known (world p q f ws) a t k (record s { clock = n }) now v s2 now2
            → Sim q 14 (60 * s2.clock + 74) s2.clock z (Good p q f (typed.both_true a b) m t k pc2 s now ws)
            (choose c (then_do (evaluate p call b s2) (λ w s. Goes (of_truth (truth w)) s)) (Goes (pos 0) s2))
        rest true n v s2 z le2 now2 ez ka =
            sim_move q 14 (Good p q f (typed.both_true a b) m t k pc2 s now ws) (60 * s2.clock + 74) s2.clock z (here f p2 now2 ws s2)
            (then_do (evaluate p call b s2) (λ w s. Goes (of_truth (truth w)) s)) ez
            (second_value (typed.both_true a b) b m t k p2 p3 other pc2 s now now2 ws s2 refl fr su fo i le2 ka.fine db
            (λ w s3 now3 kb. join_both n s now now2 now3 v w s2 s3 ka kb))
        rest false n v s2 z le2 now2 ez ka =
            sim_move q 14 (Good p q f (typed.both_true a b) m t k pc2 s now ws) (60 * s2.clock + 74) s2.clock z (here f other now2 ws s2) (Goes (pos 0) s2) ez
            (truths_end (typed.both_true a b) m t k false p3 other pc2 (60 * s2.clock + 74) s now now2 ws s2 fr su fo i (omega arith)
            (first_both n s now now2 v s2 ka))

    pub both_jumps : (sense : Bool) (to pc p1 p2 pc2 : ℕ) → One (function_at q f).code instruction.Nothing pc p1
        → IntoDoes p call q deep f a (If false (choose sense pc2 to)) t k p1 p2
        → IntoDoes p call q deep f b (If sense to) t k p2 pc2 → IntoDoes p call q deep f (typed.both_true a b) (If sense to) t k pc pc2
    both_jumps sense to pc p1 p2 pc2 o da db s now ws le fine =
        first_part (typed.both_true a b) (If sense to) (If false (choose sense pc2 to)) pc p1 p2 pc2
        (λ v s. choose (truth v) (then_do (evaluate p call b s) (λ w s. Goes (of_truth (truth w)) s)) (Goes (pos 0) s)) s now ws o da le fine
        (λ n v s2 z le2 g. rest (truth v) n v s2 z le2 g.now g.at g.known)
      where
        rest : (c : Bool) (n : ℕ) (v : ℤ) (s2 : machine.State) (z : State) → s2.clock ≤ deep → (now2 : Scratch)
            → z ≡ here f (choose (not c) (choose sense pc2 to) p2) now2 ws s2 → Known (world p q f ws) a t k (record s { clock = n }) now v s2 now2
            → Sim q 14 (60 * s2.clock + 74) s2.clock z (Good p q f (typed.both_true a b) (If sense to) t k pc2 s now ws)
            (choose c (then_do (evaluate p call b s2) (λ w s. Goes (of_truth (truth w)) s)) (Goes (pos 0) s2))
        rest true n v s2 z le2 now2 ez ka =
            sim_move q 14 (Good p q f (typed.both_true a b) (If sense to) t k pc2 s now ws) (60 * s2.clock + 74) s2.clock z (here f p2 now2 ws s2)
            (then_do (evaluate p call b s2) (λ w s. Goes (of_truth (truth w)) s)) ez
            (second_jumps (typed.both_true a b) b sense to t k p2 pc2 s now now2 ws s2 le2 ka.fine db
            (λ w s3 now3 kb. join_both n s now now2 now3 v w s2 s3 ka kb))
        rest false n v s2 z le2 now2 ez ka =
            goes q 14 (Good p q f (typed.both_true a b) (If sense to) t k pc2 s now ws (pos 0)) (60 * s2.clock + 74) s2.clock 0 0 z z s2 (stays q z) (omega arith)
            (omega arith)
            (record { now = now2; at = ez ∙ ap (λ n. here f n now2 ws s2) (chosen_false sense to pc2); has = tt; known = first_both n s now now2 v s2 ka })

    pub one_value : (m : Mode) (pc p1 p2 p3 other pc2 : ℕ) → IsFreeFor m t k → Suits p q f m ty.Bool → Follows (function_at q f).code m t pc2 pc2
        → One (function_at q f).code instruction.Nothing pc p1
        → IntoDoes p call q deep f a (If true p3) t k p1 p2 → IntoDoes p call q deep f b (If false other) t k p2 p3
        → Truths (function_at q f).code (target_of m t) p3 other pc2
        → IntoDoes p call q deep f (typed.one_true a b) m t k pc pc2
    one_value m pc p1 p2 p3 other pc2 fr su fo o da db i s now ws le fine =
        first_part (typed.one_true a b) m (If true p3) pc p1 p2 pc2
        (λ v s. choose (truth v) (Goes (pos 1) s) (then_do (evaluate p call b s) (λ w s. Goes (of_truth (truth w)) s))) s now ws o da le fine
        (λ n v s2 z le2 g. rest (truth v) n v s2 z le2 g.now g.at g.known)
      where
        rest : (c : Bool) (n : ℕ) (v : ℤ) (s2 : machine.State) (z : State) → s2.clock ≤ deep → (now2 : Scratch) → z ≡ here f (choose c p3 p2) now2 ws s2
            → Known (world p q f ws) a t k (record s { clock = n }) now v s2 now2
            → Sim q 14 (60 * s2.clock + 74) s2.clock z (Good p q f (typed.one_true a b) m t k pc2 s now ws)
            (choose c (Goes (pos 1) s2) (then_do (evaluate p call b s2) (λ w s. Goes (of_truth (truth w)) s)))
        rest true n v s2 z le2 now2 ez ka =
            sim_move q 14 (Good p q f (typed.one_true a b) m t k pc2 s now ws) (60 * s2.clock + 74) s2.clock z (here f p3 now2 ws s2) (Goes (pos 1) s2) ez
            (truths_end (typed.one_true a b) m t k true p3 other pc2 (60 * s2.clock + 74) s now now2 ws s2 fr su fo i (omega arith)
            (first_one n s now now2 v s2 ka))
        rest false n v s2 z le2 now2 ez ka =
            sim_move q 14 (Good p q f (typed.one_true a b) m t k pc2 s now ws) (60 * s2.clock + 74) s2.clock z (here f p2 now2 ws s2)
            (then_do (evaluate p call b s2) (λ w s. Goes (of_truth (truth w)) s)) ez
            (second_value (typed.one_true a b) b m t k p2 p3 other pc2 s now now2 ws s2 refl fr su fo i le2 ka.fine db
            (λ w s3 now3 kb. join_one n s now now2 now3 v w s2 s3 ka kb))

    pub one_jumps : (sense : Bool) (to pc p1 p2 pc2 : ℕ) → One (function_at q f).code instruction.Nothing pc p1
        → IntoDoes p call q deep f a (If true (choose sense to pc2)) t k p1 p2
        → IntoDoes p call q deep f b (If sense to) t k p2 pc2 → IntoDoes p call q deep f (typed.one_true a b) (If sense to) t k pc pc2
    one_jumps sense to pc p1 p2 pc2 o da db s now ws le fine =
        first_part (typed.one_true a b) (If sense to) (If true (choose sense to pc2)) pc p1 p2 pc2
        (λ v s. choose (truth v) (Goes (pos 1) s) (then_do (evaluate p call b s) (λ w s. Goes (of_truth (truth w)) s))) s now ws o da le fine
        (λ n v s2 z le2 g. rest (truth v) n v s2 z le2 g.now g.at g.known)
      where
        rest : (c : Bool) (n : ℕ) (v : ℤ) (s2 : machine.State) (z : State) → s2.clock ≤ deep → (now2 : Scratch)
            → z ≡ here f (choose c (choose sense to pc2) p2) now2 ws s2 → Known (world p q f ws) a t k (record s { clock = n }) now v s2 now2
            → Sim q 14 (60 * s2.clock + 74) s2.clock z (Good p q f (typed.one_true a b) (If sense to) t k pc2 s now ws)
            (choose c (Goes (pos 1) s2) (then_do (evaluate p call b s2) (λ w s. Goes (of_truth (truth w)) s)))
        rest true n v s2 z le2 now2 ez ka =
            goes q 14 (Good p q f (typed.one_true a b) (If sense to) t k pc2 s now ws (pos 1)) (60 * s2.clock + 74) s2.clock 0 0 z z s2 (stays q z) (omega arith)
            (omega arith)
            (record { now = now2; at = ez ∙ ap (λ n. here f n now2 ws s2) (chosen_true sense to pc2); has = tt; known = first_one n s now now2 v s2 ka })
        rest false n v s2 z le2 now2 ez ka =
            sim_move q 14 (Good p q f (typed.one_true a b) (If sense to) t k pc2 s now ws) (60 * s2.clock + 74) s2.clock z (here f p2 now2 ws s2)
            (then_do (evaluate p call b s2) (λ w s. Goes (of_truth (truth w)) s)) ez
            (second_jumps (typed.one_true a b) b sense to t k p2 pc2 s now now2 ws s2 le2 ka.fine db
            (λ w s3 now3 kb. join_one n s now now2 now3 v w s2 s3 ka kb))
