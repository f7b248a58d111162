-- The code follows `?:` (ISO/IEC 9899:2011 6.5.15), if it follows its parts.
use Rattle.std.proofs.Common.{◌≡◌, ℕ, ◌+◌, ◌*◌, ◌≤◌, List, Option, Bool, true, false, not, ◌||◌, ℤ, refl, sym, ap, ◌∙◌, arith}
use Rattle.ctypes.specs.declared.types.IntType.{IntType}
use Rattle.ctypes.specs.Types.{IsValueOf, truth, converted}
use Rattle.ctypes.proofs.Uses.{converted_fits}
use Rattle.typing_spec.specs.Program as typed
use Rattle.typing_spec.specs.Program.{Value as Expression}
use Rattle.csem.specs.Machine as machine
use Rattle.csem.specs.Machine.{Run, Goes, Stops, then_do, choose, computed_at}
use Rattle.csem.specs.Expressions.{Calling, evaluate, converted_or_none}
use Rattle.tac_code.specs.declared.code.Instruction.TheVariants as instruction
use Rattle.tac_code.specs.Code.{Program, function_at}
use Rattle.tac_code.specs.Run.{Call, State, running, word_for}
use Rattle.lower_wf.specs.Asked.{is_wide}
use Rattle.lower_correct.specs.Values.{calls, writes, extent, Mode, Nowhere, To, If}
use Rattle.lower_correct.specs.Code.{One}
use Rattle.lower_correct.proofs.Words.{Ranged, ranged, wide_word}
use Rattle.lower_correct.proofs.Steps.{stays, GoesTo, goes, from, Sim, sim_then, sim_move}
use Rattle.lower_correct.proofs.Standing.{Scratch, here, put_state, does_jump, world}
use Rattle.lower_correct.proofs.Stores.{World}
use Rattle.lower_correct.proofs.Goods.{meets, Known, Good}
use Rattle.lower_correct.proofs.Leaves.{or_left, or_right, IntoDoes}
use Rattle.lower_correct.proofs.Operators.{same_truth}
use Rattle.lower_correct.proofs.Choices.{IsSameFor, remode, known_join, first_part}

module _ (p : typed.Program) (call : Calling) (q : Program) (deep f : ℕ) where
  -- after the first arm the second is jumped over, unless a jump has led elsewhere
  jump_if : (e : Expression) (sense : Bool) (to t k p3 other pc2 : ℕ) (before : machine.State) (old now : Scratch) (ws : List Call) (v : ℤ) (s : machine.State)
      (z : State) (b : Bool) → meets sense (truth v) ≡ b
      → z ≡ here f (choose b to p3) now ws s → One (function_at q f).code (instruction.Jump pc2) p3 other
      → Known (world p q f ws) e t k before old v s now
      → GoesTo q 14 (60 * s.clock + 16) s.clock z (Good p q f e (If sense to) t k pc2 before old ws v) s
  jump_if e sense to t k p3 other pc2 before old now ws v s z true h ez i known =
      goes q 14 (Good p q f e (If sense to) t k pc2 before old ws v) (60 * s.clock + 16) s.clock 0 0 z z s (stays q z) (omega arith) (omega arith)
      (record { now = now; at = ez ∙ ap (λ b. here f (choose b to pc2) now ws s) (sym h); has = tt; known = known })
  jump_if e sense to t k p3 other pc2 before old now ws v s z false h ez i known =
      goes q 14 (Good p q f e (If sense to) t k pc2 before old ws v) (60 * s.clock + 16) s.clock 1 1 z (here f pc2 now ws s) s
      (from q z (here f p3 now ws s) 1 1 (running (here f pc2 now ws s)) ez (does_jump q f pc2 p3 other now ws s i)) (omega arith) (omega arith)
      (record { now = now; at = ap (λ b. here f (choose b to pc2) now ws s) (sym h); has = tt; known = known })

  jump_on : (e : Expression) (m : Mode) (t k p3 other pc2 : ℕ) (before : machine.State) (old : Scratch) (ws : List Call) (v : ℤ) (s : machine.State) (z : State)
      → One (function_at q f).code (instruction.Jump pc2) p3 other
      → Good p q f e m t k p3 before old ws v s z → GoesTo q 14 (60 * s.clock + 16) s.clock z (Good p q f e m t k pc2 before old ws v) s
  jump_on e Nowhere t k p3 other pc2 before old ws v s z i g =
      goes q 14 (Good p q f e Nowhere t k pc2 before old ws v) (60 * s.clock + 16) s.clock 1 1 z (here f pc2 g.now ws s) s
      (from q z (here f p3 g.now ws s) 1 1 (running (here f pc2 g.now ws s)) g.at (does_jump q f pc2 p3 other g.now ws s i)) (omega arith) (omega arith)
      (record { now = g.now; at = refl; has = tt; known = g.known })
  jump_on e (To y) t k p3 other pc2 before old ws v s z i g =
      let s2 = put_state q f y (word_for v) s in
      goes q 14 (Good p q f e (To y) t k pc2 before old ws v) (60 * s.clock + 16) s.clock 1 1 z (here f pc2 g.now ws s2) s
      (from q z (here f p3 g.now ws s2) 1 1 (running (here f pc2 g.now ws s2)) g.at (does_jump q f pc2 p3 other g.now ws s2 i)) (omega arith) (omega arith)
      (record { now = g.now; at = refl; has = g.has; known = g.known })
  jump_on e (If sense to) t k p3 other pc2 before old ws v s z i g =
      jump_if e sense to t k p3 other pc2 before old g.now ws v s z (meets sense (truth v)) refl g.at i g.known

  module _ (u : Option IntType) (c a b : Expression) (m : Mode) (t k : ℕ)
      (same : (e : Expression) (w : ℤ) → IsValueOf (extent e) w → IsSameFor p call q deep f m (converted_or_none u w) w)
      (value : (w : ℤ) → IsValueOf (extent (typed.chosen u c a b)) (converted_or_none u w)) where
    join_first : {W : World} (n : ℕ) (s : machine.State) (now now2 now3 : Scratch) (v w : ℤ) (s2 s3 : machine.State)
        → Known W c t k (record s { clock = n }) now v s2 now2
        → Known W a t k s2 now2 w s3 now3
        → Known W (typed.chosen u c a b) t k s now (converted_or_none u w) s3 now3
    join_first n s now now2 now3 v w s2 s3 kc ka =
        known_join p call q deep f (typed.chosen u c a b) c a t k n s now now2 now3 v w (converted_or_none u w) s2 s3 (or_left (calls c) (calls a || calls b))
        (λ h. or_left (calls a) (calls b) (or_right (calls c) (calls a || calls b) h))
        (λ x h. or_left (writes c x) (writes a x || writes b x) h)
        (λ x h. or_left (writes a x) (writes b x) (or_right (writes c x) (writes a x || writes b x) h)) refl refl (value w) kc ka

    join_second : {W : World} (n : ℕ) (s : machine.State) (now now2 now3 : Scratch) (v w : ℤ) (s2 s3 : machine.State)
        → Known W c t k (record s { clock = n }) now v s2 now2
        → Known W b t k s2 now2 w s3 now3
        → Known W (typed.chosen u c a b) t k s now (converted_or_none u w) s3 now3
    join_second n s now now2 now3 v w s2 s3 kc kb =
        known_join p call q deep f (typed.chosen u c a b) c b t k n s now now2 now3 v w (converted_or_none u w) s2 s3 (or_left (calls c) (calls a || calls b))
        (λ h. or_right (calls a) (calls b) (or_right (calls c) (calls a || calls b) h))
        (λ x h. or_left (writes c x) (writes a x || writes b x) h)
        (λ x h. or_right (writes a x) (writes b x) (or_right (writes c x) (writes a x || writes b x) h)) refl refl (value w) kc kb

    pub chosen_does : (pc p1 p2 p3 other pc2 : ℕ) → One (function_at q f).code instruction.Nothing pc p1 → IntoDoes p call q deep f c (If false other) t k p1 p2
        → IntoDoes p call q deep f a m t k p2 p3
        → One (function_at q f).code (instruction.Jump pc2) p3 other → IntoDoes p call q deep f b m t k other pc2
        → IntoDoes p call q deep f (typed.chosen u c a b) m t k pc pc2
    chosen_does pc p1 p2 p3 other pc2 o dc da i db s now ws le fine =
        first_part p call q deep f c b t k (typed.chosen u c a b) m (If false other) pc p1 p2 pc2
        (λ v s. then_do (choose (truth v) (evaluate p call a s) (evaluate p call b s)) (λ w s. Goes (converted_or_none u w) s)) s now ws o dc le fine
        (λ n v s2 z le2 g. rest (truth v) n v s2 z le2 g.now g.at g.known)
      where
        rest : (d : Bool) (n : ℕ) (v : ℤ) (s2 : machine.State) (z : State) → s2.clock ≤ deep → (now2 : Scratch)
            → z ≡ here f (choose (not d) other p2) now2 ws s2 → Known (world p q f ws) c t k (record s { clock = n }) now v s2 now2
            → Sim q 14 (60 * s2.clock + 74) s2.clock z (Good p q f (typed.chosen u c a b) m t k pc2 s now ws)
            (then_do (choose d (evaluate p call a s2) (evaluate p call b s2)) (λ w s. Goes (converted_or_none u w) s))
        rest true n v s2 z le2 now2 ez kc =
            let Result2 = Good p q f (typed.chosen u c a b) m t k pc2 s now ws in
            sim_move q 14 Result2 (60 * s2.clock + 74) s2.clock z (here f p2 now2 ws s2)
            (then_do (evaluate p call a s2) (λ w s. Goes (converted_or_none u w) s)) ez
            (sim_then q 14 14 (Good p q f a m t k p3 s2 now2 ws) Result2 (60 * s2.clock) 16 (60 * s2.clock + 74) s2.clock (here f p2 now2 ws s2)
            (evaluate p call a s2) (λ w s. Goes (converted_or_none u w) s) (omega arith) (omega arith)
            (da s2 now2 ws le2 kc.fine)
            (λ w s3 z3 lt g.
            let l = jump_on a m t k p3 other pc2 s2 now2 ws w s3 z3 i g in
            goes q 14 (Result2 (converted_or_none u w)) (60 * s3.clock + 16) s3.clock l.j l.c z3 l.u s3 l.reaches l.within l.progress
            (remode p call q deep f a (typed.chosen u c a b) m t k pc2 s2 s now2 now ws w (converted_or_none u w) s3 l.u (same a w l.good.known.value)
            (λ now3 ka. join_first n s now now2 now3 v w s2 s3 kc ka) l.good)))
        rest false n v s2 z le2 now2 ez kc =
            let Result2 = Good p q f (typed.chosen u c a b) m t k pc2 s now ws in
            sim_move q 14 Result2 (60 * s2.clock + 74) s2.clock z (here f other now2 ws s2)
            (then_do (evaluate p call b s2) (λ w s. Goes (converted_or_none u w) s)) ez
            (sim_then q 14 14 (Good p q f b m t k pc2 s2 now2 ws) Result2 (60 * s2.clock) 16 (60 * s2.clock + 74) s2.clock (here f other now2 ws s2)
            (evaluate p call b s2) (λ w s. Goes (converted_or_none u w) s) (omega arith) (omega arith)
            (db s2 now2 ws le2 kc.fine)
            (λ w s3 z3 lt g.
            goes q 14 (Result2 (converted_or_none u w)) (60 * s3.clock + 16) s3.clock 0 0 z3 z3 s3 (stays q z3) (omega arith) (omega arith)
            (remode p call q deep f b (typed.chosen u c a b) m t k pc2 s2 s now2 now ws w (converted_or_none u w) s3 z3 (same b w g.known.value)
            (λ now3 kb. join_second n s now now2 now3 v w s2 s3 kc kb) g)))

  -- a common type of 32 bits leaves the word
  pub same_chosen : (u : IntType) (m : Mode) (w : ℤ) → is_wide u ≡ true → Ranged w → IsSameFor p call q deep f m (converted u w) w
  same_chosen u Nowhere w h r = tt
  same_chosen u (To y) w h r = wide_word u w h
  same_chosen u (If sense to) w h r = same_truth (converted u w) w (ranged u (converted u w) (converted_fits u w)) r (wide_word u w h)
