-- The code follows signs, operations and casts, if it follows their operands.
use Rattle.std.proofs.Common.{◌≡◌, ℕ, zero, suc, ◌+◌, ◌*◌, ◌≤◌, List, None, Bool, true, false, not, ◌&&◌, ◌||◌, ℤ, pos, negsuc, Result, Ok, Err, refl, sym, ap, ◌∙◌, subst, arith}
use Rattle.std.specs.Prelude.{int_le, ◌==◌}
use Rattle.std.proofs.lemmas.Int.{ints}
use Rattle.std.proofs.lemmas.Bool.Decides.{nat_tests}
use Rattle.srcset.specs.declared.refusal.Pos.{Pos}
use Rattle.ctypes.specs.declared.types.IntType.{IntType}
use Rattle.ctypes.specs.declared.types.IntType.TheVariants as ty
use Rattle.ctypes.specs.declared.operators.BinOp.{BinOp}
use Rattle.ctypes.specs.declared.operators.BinOp.TheVariants as op
use Rattle.ctypes.specs.declared.operators.Undef.{Undef}
use Rattle.ctypes.specs.Types.{least, greatest, IsValueOf, truth, of_truth, converted}
use Rattle.ctypes.specs.Arithmetic.{computed}
use Rattle.ctypes.proofs.Uses.{converted_fits}
use Rattle.tree.specs.declared.expression.PrefixOp.TheVariants as prefix
use Rattle.typing_spec.specs.Operators.{operated, sign_of}
use Rattle.typing_spec.specs.Program as typed
use Rattle.typing_spec.specs.Program.{Value as Expression}
use Rattle.csem.specs.Machine as machine
use Rattle.csem.specs.Machine.{Run, Goes, Stops, then_do, choose, computed_at}
use Rattle.csem.specs.Expressions.{Calling, evaluate}
use Rattle.tac_code.specs.declared.code.Operand.{Operand}
use Rattle.tac_code.specs.declared.code.Operand.TheVariants as operand
use Rattle.tac_code.specs.declared.code.Target.TheVariants as target
use Rattle.tac_code.specs.declared.code.Instruction.TheVariants as instruction
use Rattle.tac_code.specs.Code.{Program, function_at}
use Rattle.tac_code.specs.Run.{Call, State, running, word_for, number_of}
use Rattle.lower_wf.specs.Asked.{is_wide}
use Rattle.lower_correct.specs.Values.{calls, writes, writes_none, rests_in, extent, holds_all, stays_word, keeps, reading_of, computed_extent, operand_of, constant_of, waits_in, free_temporary, free_kept, Mode, Nowhere, To, If, mode_of, target_of}
use Rattle.lower_correct.specs.Code.{One, Then, Operates, Casts, Into, zero_word}
use Rattle.lower_correct.proofs.Words.{Ranged, ranged, zero_test, truth_of, truth_fits, converts_again, wide_word, word_stays, has_all, le_holds, left_true, right_true, differ}
use Rattle.lower_correct.proofs.Steps.{Reaches, reaches_on, stays, goes, Sim, sim_then, sim_move, tick_in, halts}
use Rattle.lower_correct.proofs.Standing.{Scratch, here, put_scratch, put_state, Takes, Holds, does_nothing, does_convert, world, sizes}
use Rattle.lower_correct.proofs.Stores.{World, Fine, after_on, after_none, fine_later, after_since}
use Rattle.lower_correct.proofs.Goods.{Keeps, keeps_on, IsFreeFor, Has, meets, lands, RestsIn, IsConstant, Known, put_mode, Suits, takes, target_suits, Good, follows, mode_free, mode_suits, held, stays_there, free_more}
use Rattle.lower_correct.proofs.Operations.{operated_extent, then_does, operates_do}
use Rattle.lower_correct.proofs.Leaves.{or_left, or_right, IntoDoes}

-- ---- types that have each other's words

has_greatest : (u : IntType) → is_wide u ≡ true → IsValueOf u (pos 2147483647)
has_greatest ty.Bool h = absurd (differ h)
has_greatest ty.Char h = absurd (differ h)
has_greatest ty.SChar h = absurd (differ h)
has_greatest ty.UChar h = absurd (differ h)
has_greatest ty.Short h = absurd (differ h)
has_greatest ty.UShort h = absurd (differ h)
has_greatest ty.Int h = (omega (arith, ints), omega (arith, ints))
has_greatest ty.UInt h = (omega (arith, ints), omega (arith, ints))
has_greatest ty.Long h = (omega (arith, ints), omega (arith, ints))
has_greatest ty.ULong h = (omega (arith, ints), omega (arith, ints))

wide_if : (y : IntType) → IsValueOf y (pos 2147483647) → is_wide y ≡ true
wide_if ty.Bool h = absurd (let z : ⊥ = omega (arith, ints, h.1) in z)
wide_if ty.Char h = absurd (let z : ⊥ = omega (arith, ints, h.1) in z)
wide_if ty.SChar h = absurd (let z : ⊥ = omega (arith, ints, h.1) in z)
wide_if ty.UChar h = absurd (let z : ⊥ = omega (arith, ints, h.1) in z)
wide_if ty.Short h = absurd (let z : ⊥ = omega (arith, ints, h.1) in z)
wide_if ty.UShort h = absurd (let z : ⊥ = omega (arith, ints, h.1) in z)
wide_if ty.Int h = refl
wide_if ty.UInt h = refl
wide_if ty.Long h = refl
wide_if ty.ULong h = refl

le_tests : (a b c : ℤ) → int_le a b ≡ true → int_le b c ≡ true → int_le a c ≡ true
le_tests a b c h g = let x = le_holds a b h in let y = le_holds b c g in grind (arith, nat_tests, ints, x, y)

and_true : (a b : Bool) → a ≡ true → b ≡ true → (a && b) ≡ true
and_true true b h g = g
and_true false b h g = absurd (differ h)

all_on : (x y z : IntType) → holds_all x y ≡ true → holds_all y z ≡ true → holds_all x z ≡ true
all_on x y z h g =
    and_true (int_le (least x) (least z)) (int_le (greatest z) (greatest x))
    (le_tests (least x) (least y) (least z) (left_true (int_le (least x) (least y)) (int_le (greatest y) (greatest x)) h)
    (left_true (int_le (least y) (least z)) (int_le (greatest z) (greatest y)) g))
    (le_tests (greatest z) (greatest y) (greatest x) (right_true (int_le (least y) (least z)) (int_le (greatest z) (greatest y)) g)
    (right_true (int_le (least x) (least y)) (int_le (greatest y) (greatest x)) h))

stays_on_if : (bx by : Bool) (x y z : IntType) → is_wide x ≡ bx → is_wide y ≡ by → (bx || holds_all x y) ≡ true → (by || holds_all y z) ≡ true
    → (bx || holds_all x z) ≡ true
stays_on_if true by x y z ex ey h g = refl
stays_on_if false true x y z ex ey h g = absurd (differ (sym ex ∙ wide_if x (has_all x y (pos 2147483647) h (has_greatest y ey))))
stays_on_if false false x y z ex ey h g = all_on x y z h g

pub stays_on : (x y z : IntType) → stays_word x y ≡ true → stays_word y z ≡ true → stays_word x z ≡ true
stays_on x y z h g = stays_on_if (is_wide x) (is_wide y) x y z refl refl h g

pub wide_stays : (y z : IntType) → is_wide y ≡ true → stays_word y z ≡ true
wide_stays y z h = ap (λ b. b || holds_all y z) h

-- ---- truths of words

not_same : (a b : Bool) → not a ≡ not b → a ≡ b
not_same true true h = refl
not_same false false h = refl
not_same true false h = absurd (differ h)
not_same false true h = absurd (differ (sym h))

pub same_truth : (v w : ℤ) → Ranged v → Ranged w → word_for v ≡ word_for w → truth v ≡ truth w
same_truth v w rv rw_ h = not_same (truth v) (truth w) (sym (zero_test v rv) ∙ (ap (λ n. n == 0) h ∙ zero_test w rw_))

pub meets_not : (sense b : Bool) → meets (not sense) b ≡ meets sense (not b)
meets_not true true = refl
meets_not true false = refl
meets_not false true = refl
meets_not false false = refl

zero_converted : (t : IntType) → converted t (pos 0) ≡ pos 0
zero_converted ty.Bool = refl
zero_converted ty.Char = refl
zero_converted ty.SChar = refl
zero_converted ty.UChar = refl
zero_converted ty.Short = refl
zero_converted ty.UShort = refl
zero_converted ty.Int = refl
zero_converted ty.UInt = refl
zero_converted ty.Long = refl
zero_converted ty.ULong = refl

zero_ranged : Ranged (pos 0)
zero_ranged = (omega (arith, ints), omega (arith, ints))

ones_ranged : Ranged (negsuc 0)
ones_ranged = (omega (arith, ints), omega (arith, ints))

equals_zero : (x : ℤ) → (int_le x (pos 0) && int_le (pos 0) x) ≡ not (truth x)
equals_zero (pos zero) = refl
equals_zero (pos (suc n)) = grind (arith, nat_tests, ints)
equals_zero (negsuc n) = refl

module _ (p : typed.Program) (call : Calling) (q : Program) (deep f : ℕ) where
  -- the code follows an expression for each use, at every place
  abbrev pub DoesAt : Expression → ℕ → ℕ → Type 0
  DoesAt e t k = (m : Mode) (a z : ℕ) → IsFreeFor m t k → Suits p q f m (extent e) → Into (function_at q f).code (sizes p f) e m t k a z
      → IntoDoes p call q deep f e m t k a z

  -- with the same word it is the value of another expression
  pub regood : (e e2 : Expression) (m : Mode) (t k pc2 : ℕ) (before before2 : machine.State) (old old2 : Scratch) (ws : List Call) (v v2 : ℤ)
      (s : machine.State) (z : State)
      → word_for v2 ≡ word_for v → truth v2 ≡ truth v
      → ((now : Scratch) → Known (world p q f ws) e t k before old v s now → Known (world p q f ws) e2 t k before2 old2 v2 s now)
      → Good p q f e m t k pc2 before old ws v s z → Good p q f e2 m t k pc2 before2 old2 ws v2 s z
  regood e e2 m t k pc2 before before2 old old2 ws v v2 s z hw ht next g = record {
    now = g.now;
    at = g.at ∙ (ap (λ b. here f (lands m b pc2) g.now ws (put_mode p q f m (word_for v) s)) (sym ht)
        ∙ ap (λ w. here f (lands m (truth v2) pc2) g.now ws (put_mode p q f m w s)) (sym hw));
    has = subst (λ w. Has m w g.now) (sym hw) g.has;
    known = next g.now g.known;
  }

  pub suits_through : (m : Mode) (y z : IntType) → stays_word y z ≡ true → Suits p q f m y → Suits p q f m z
  suits_through Nowhere y z h su = tt
  suits_through (To (target.Temporary j)) y z h su = tt
  suits_through (To (target.Kept j)) y z h su = tt
  suits_through (To (target.Object x)) y z h su = (su.0, su.1, stays_on su.0 y z su.2 h)
  suits_through (If sense to) y z h su = tt

  -- ---- one operand

  -- an operand and its continuation, in one tick
  pub one_operand : (e : Expression) (t k pc p1 p2 : ℕ) (Result2 : ℤ → machine.State → State → Type 0) (last : ℤ → machine.State → Run ℤ) (s : machine.State)
      (now : Scratch) (ws : List Call) → DoesAt e t k
      → One (function_at q f).code instruction.Nothing pc p1 → Into (function_at q f).code (sizes p f) e (mode_of (operand_of e t k)) t k p1 p2 → s.clock ≤ deep
      → Fine (world p q f ws) s
      → ((n : ℕ) (v : ℤ) (s2 : machine.State) (now2 : Scratch) → Holds q f (operand_of e t k) (word_for v) now2 s2
      → Known (world p q f ws) e t k (record s { clock = n }) now v s2 now2
      → Sim q 14 (60 * s2.clock + 74) s2.clock (here f p2 now2 ws s2) Result2 (last v s2))
      → Sim q 14 (60 * s.clock) s.clock (here f pc now ws s) Result2 (machine.tick s (λ s. then_do (evaluate p call e s) last))
  one_operand e t k pc p1 p2 Result2 last s now ws de o i le fine next =
      let a = operand_of e t k in
      tick_in q 14 Result2 (here f pc now ws s) (here f p1 now ws s) s 0 (60 * s.clock) (λ s. then_do (evaluate p call e s) last) (omega arith) refl refl
      (does_nothing q f pc p1 now ws s o)
      (λ n lt.
      let s1 : machine.State = record s { clock = n } in
      sim_then q 14 14 (Good p q f e (mode_of a) t k p2 s1 now ws) Result2 (60 * n) 74 (60 * n + 60 + 0) n (here f p1 now ws s) (evaluate p call e s1) last
      (omega arith) (omega arith)
      (de (mode_of a) p1 p2 (mode_free p q f (constant_of e) (rests_in e) writes_none false t k)
      (mode_suits p q f (constant_of e) (rests_in e) writes_none false t k (extent e)) i s1 now ws (omega (arith, le, lt))
      (fine_later (world p q f ws) s n fine))
      (λ v s2 z lt2 good.
      let h = held p q f e writes_none false t k p2 s1 now ws v s2 z good in
      sim_move q 14 Result2 (60 * s2.clock + 74) s2.clock z (here f p2 h.now ws s2) (last v s2) h.at (next n v s2 h.now h.holds h.known)))

  -- the facts known of a value hold of one made of it
  pub known_of : {W : World} (e e2 : Expression) (t k n : ℕ) (s : machine.State) (now now2 : Scratch) (v w : ℤ) (s2 : machine.State) → calls e2 ≡ calls e
      → ((x : ℕ) → writes e2 x ≡ writes e x) → rests_in e2 ≡ None → constant_of e2 ≡ None
      → IsValueOf (extent e2) w → Known W e t k (record s { clock = n }) now v s2 now2
      → Known W e2 t k s now w s2 now2
  known_of e e2 t k n s now now2 v w s2 hc hw hr hk hv known = record {
    keeps = subst (λ c. Keeps c t k now now2) (sym hc) known.keeps;
    fine = known.fine;
    value = hv;
    after = after_on (writes e2) (writes e) writes_none s s2 s2 (λ x h. sym (hw x) ∙ h) (λ x h. refl) (after_since (writes e) s s2 n known.after)
        (after_none writes_none s2);
    rests = subst (λ r. RestsIn r w s2) (sym hr) tt;
    constant = subst (λ r. IsConstant r w) (sym hk) tt;
  }

  -- ---- signs (6.5.3.3)

  no_writes : (e : Expression) (x : ℕ) → writes e x ≡ writes e x
  no_writes e x = refl

  pub plus_does : (at : Pos) (u : IntType) (e : Expression) (m : Mode) (t k pc pc2 : ℕ) → is_wide u ≡ true → DoesAt e t k → IsFreeFor m t k → Suits p q f m u
      → Into (function_at q f).code (sizes p f) (typed.unary at prefix.Plus u e) m t k pc pc2 → IntoDoes p call q deep f (typed.unary at prefix.Plus u e) m t k pc pc2
  plus_does at u e m t k pc pc2 hu de fr su h s now ws le fine =
      let a = typed.unary at prefix.Plus u e in
      let Result2 = Good p q f a m t k pc2 s now ws in
      let last : ℤ → machine.State → Run ℤ = λ v s. Goes (converted u v) s in
      tick_in q 14 Result2 (here f pc now ws s) (here f h.0 now ws s) s 0 (60 * s.clock) (λ s. then_do (evaluate p call e s) last) (omega arith) refl refl
      (does_nothing q f pc h.0 now ws s h.1)
      (λ n lt.
      let s1 : machine.State = record s { clock = n } in
      sim_then q 14 14 (Good p q f e m t k pc2 s1 now ws) Result2 (60 * n) 14 (60 * n + 60 + 0) n (here f h.0 now ws s) (evaluate p call e s1) last (omega arith)
      (omega arith)
      (de m h.0 pc2 fr (suits_through m u (extent e) (wide_stays u (extent e) hu) su) h.2 s1 now ws (omega (arith, le, lt))
      (fine_later (world p q f ws) s n fine))
      (λ v s2 z lt2 good.
      let r = ranged (extent e) v good.known.value in
      let same = wide_word u v hu in
      goes q 14 (Result2 (converted u v)) (60 * s2.clock + 14) s2.clock 0 0 z z s2 (stays q z) (omega arith) (omega arith)
      (regood e a m t k pc2 s1 s now now ws v (converted u v) s2 z same (same_truth (converted u v) v (ranged u (converted u v) (converted_fits u v)) r same)
      (λ now2 known. known_of e a t k n s now now2 v (converted u v) s2 refl (no_writes e) refl refl (converted_fits u v) known) good)))

  -- 0 - e, the other bits of e: by a binary operation
  signed_ends : (at : Pos) (a : Expression) (o : BinOp) (u : IntType) (m : Mode) (x y : Operand) (t k : ℕ) (b c : ℤ) (pc pc2 : ℕ) (before : machine.State)
      (old now : Scratch) (ws : List Call) (s : machine.State) (r : Result ℤ Undef)
      → is_wide u ≡ true → Ranged b → Ranged c → IsFreeFor m t k → Suits p q f m (extent a) → Then (function_at q f).code o (reading_of u) m x y t pc pc2
      → Holds q f x (word_for b) now s → Holds q f y (word_for c) now s → operated o u b c ≡ r
      → ((w : ℤ) → r ≡ Ok w → Known (world p q f ws) a t k before old w s now)
      → Sim q 14 (60 * s.clock + 74) s.clock (here f pc now ws s) (Good p q f a m t k pc2 before old ws) (computed_at at r s)
  signed_ends at a o u m x y t k b c pc pc2 before old now ws s (Err act) hu rb rc fr su i hx hy e known =
      halts q (60 * s.clock + 74) (here f pc now ws s) s refl refl
  signed_ends at a o u m x y t k b c pc pc2 before old now ws s (Ok w) hu rb rc fr su i hx hy e known =
      then_does p q f a o u m x y t k b c w pc pc2 (60 * s.clock + 74) before old now ws s hu rb rc fr su i hx hy e (omega arith) (known w refl)

  pub minus_does : (at : Pos) (u : IntType) (e : Expression) (m : Mode) (t k pc pc2 : ℕ) → is_wide u ≡ true → DoesAt e t k → IsFreeFor m t k → Suits p q f m u
      → Into (function_at q f).code (sizes p f) (typed.unary at prefix.Minus u e) m t k pc pc2 → IntoDoes p call q deep f (typed.unary at prefix.Minus u e) m t k pc pc2
  minus_does at u e m t k pc pc2 hu de fr su h s now ws le fine =
      let a = typed.unary at prefix.Minus u e in
      one_operand e t k pc h.0 h.1 (Good p q f a m t k pc2 s now ws) (λ v s. computed_at at (sign_of prefix.Minus u v) s) s now ws de h.2 h.3 le fine
      (λ n v s2 now2 hv known.
      let same : operated op.Sub u (pos 0) v ≡ sign_of prefix.Minus u v = ap (λ z. computed op.Sub u z (converted u v)) (zero_converted u) in
      signed_ends at a op.Sub u m zero_word (operand_of e t k) t k (pos 0) v h.1 pc2 s now now2 ws s2 (sign_of prefix.Minus u v) hu zero_ranged
      (ranged (extent e) v known.value) fr su h.4 refl hv same
      (λ w er. known_of e a t k n s now now2 v w s2 refl (no_writes e) refl refl (operated_extent op.Sub u (pos 0) v w (same ∙ er)) known))

  pub complement_does : (at : Pos) (u : IntType) (e : Expression) (m : Mode) (t k pc pc2 : ℕ) → is_wide u ≡ true → DoesAt e t k → IsFreeFor m t k
      → Suits p q f m u
      → Into (function_at q f).code (sizes p f) (typed.unary at prefix.Complement u e) m t k pc pc2
      → IntoDoes p call q deep f (typed.unary at prefix.Complement u e) m t k pc pc2
  complement_does at u e m t k pc pc2 hu de fr su h s now ws le fine =
      let a = typed.unary at prefix.Complement u e in
      one_operand e t k pc h.0 h.1 (Good p q f a m t k pc2 s now ws) (λ v s. computed_at at (sign_of prefix.Complement u v) s) s now ws de h.2 h.3 le fine
      (λ n v s2 now2 hv known.
      signed_ends at a op.BitXor u m (operand_of e t k) (operand.Constant 4294967295) t k v (negsuc 0) h.1 pc2 s now now2 ws s2 (sign_of prefix.Complement u v)
      hu (ranged (extent e) v known.value) ones_ranged fr su h.4 hv refl refl
      (λ w er. known_of e a t k n s now now2 v w s2 refl (no_writes e) refl refl (operated_extent op.BitXor u v (negsuc 0) w er) known))

  -- the value of `!`
  wide_truth : (u : IntType) (v : ℤ) → is_wide u ≡ true → Ranged v → truth (converted u v) ≡ truth v
  wide_truth u v h r = same_truth (converted u v) v (ranged u (converted u v) (converted_fits u v)) r (wide_word u v h)

  not_computed : (u : IntType) (v : ℤ) → is_wide u ≡ true → Ranged v → operated op.Equal ty.Int v (pos 0) ≡ sign_of prefix.Not u v
  not_computed u v h r = ap (λ b. Ok (of_truth b)) (equals_zero (converted ty.Int v) ∙ ap not (wide_truth ty.Int v refl r ∙ sym (wide_truth u v h r)))

  pub not_does : (at : Pos) (u : IntType) (e : Expression) (m : Mode) (t k pc p1 p2 pc2 : ℕ) → is_wide u ≡ true → DoesAt e t k → IsFreeFor m t k
      → Suits p q f m ty.Bool
      → One (function_at q f).code instruction.Nothing pc p1 → Into (function_at q f).code (sizes p f) e (mode_of (operand_of e t k)) t k p1 p2
      → Then (function_at q f).code op.Equal (reading_of ty.Int) m (operand_of e t k) zero_word t p2 pc2
      → IntoDoes p call q deep f (typed.unary at prefix.Not u e) m t k pc pc2
  not_does at u e m t k pc p1 p2 pc2 hu de fr su i1 i2 i3 s now ws le fine =
      let a = typed.unary at prefix.Not u e in
      one_operand e t k pc p1 p2 (Good p q f a m t k pc2 s now ws) (λ v s. computed_at at (sign_of prefix.Not u v) s) s now ws de i1 i2 le fine
      (λ n v s2 now2 hv known.
      let r = ranged (extent e) v known.value in
      signed_ends at a op.Equal ty.Int m (operand_of e t k) zero_word t k v (pos 0) p2 pc2 s now now2 ws s2 (sign_of prefix.Not u v) refl r zero_ranged fr su i3
      hv refl (not_computed u v hu r)
      (λ w er. known_of e a t k n s now now2 v w s2 refl (no_writes e) refl refl (operated_extent op.Equal ty.Int v (pos 0) w (not_computed u v hu r ∙ er))
      known))

  -- a condition is met where its opposite is not
  pub not_jumps : (at : Pos) (u : IntType) (e : Expression) (sense : Bool) (to t k pc p1 pc2 : ℕ) → is_wide u ≡ true → DoesAt e t k
      → One (function_at q f).code instruction.Nothing pc p1 → Into (function_at q f).code (sizes p f) e (If (not sense) to) t k p1 pc2
      → IntoDoes p call q deep f (typed.unary at prefix.Not u e) (If sense to) t k pc pc2
  not_jumps at u e sense to t k pc p1 pc2 hu de i1 i2 s now ws le fine =
      let a = typed.unary at prefix.Not u e in
      let Result2 = Good p q f a (If sense to) t k pc2 s now ws in
      let last : ℤ → machine.State → Run ℤ = λ v s. Goes (of_truth (not (truth (converted u v)))) s in
      tick_in q 14 Result2 (here f pc now ws s) (here f p1 now ws s) s 0 (60 * s.clock) (λ s. then_do (evaluate p call e s) last) (omega arith) refl refl
      (does_nothing q f pc p1 now ws s i1)
      (λ n lt.
      let s1 : machine.State = record s { clock = n } in
      sim_then q 14 14 (Good p q f e (If (not sense) to) t k pc2 s1 now ws) Result2 (60 * n) 14 (60 * n + 60 + 0) n (here f p1 now ws s) (evaluate p call e s1)
      last (omega arith) (omega arith)
      (de (If (not sense) to) p1 pc2 tt tt i2 s1 now ws (omega (arith, le, lt)) (fine_later (world p q f ws) s n fine))
      (λ v s2 z lt2 good.
      let r = ranged (extent e) v good.known.value in
      let w = of_truth (not (truth (converted u v))) in
      let there : meets (not sense) (truth v) ≡ meets sense (truth w) =
      meets_not sense (truth v) ∙ ap (meets sense) (ap not (sym (wide_truth u v hu r)) ∙ sym (truth_of (not (truth (converted u v))))) in
      goes q 14 (Result2 w) (60 * s2.clock + 14) s2.clock 0 0 z z s2 (stays q z) (omega arith) (omega arith)
      (record {
        now = good.now;
        at = good.at ∙ ap (λ b. here f (choose b to pc2) good.now ws s2) there;
        has = tt;
        known = known_of e a t k n s now good.now v w s2 refl (no_writes e) refl refl (truth_fits (not (truth (converted u v)))) good.known;
      })))

  -- ---- casts (6.5.4)

  pub cast_does : (b : Bool) (u : IntType) (e : Expression) (m : Mode) (t k pc p1 pc2 : ℕ) → keeps u e ≡ b → DoesAt e t k → IsFreeFor m t k → Suits p q f m u
      → One (function_at q f).code instruction.Nothing pc p1
      → Casts (function_at q f).code b (λ m a z. Into (function_at q f).code (sizes p f) e m t k a z) u (operand_of e t k) m t p1 pc2
      → IntoDoes p call q deep f (typed.cast u e) m t k pc pc2
  cast_does true u e m t k pc p1 pc2 hk de fr su i1 i2 s now ws le fine =
      let a = typed.cast u e in
      let Result2 = Good p q f a m t k pc2 s now ws in
      let last : ℤ → machine.State → Run ℤ = λ v s. Goes (converted u v) s in
      tick_in q 14 Result2 (here f pc now ws s) (here f p1 now ws s) s 0 (60 * s.clock) (λ s. then_do (evaluate p call e s) last) (omega arith) refl refl
      (does_nothing q f pc p1 now ws s i1)
      (λ n lt.
      let s1 : machine.State = record s { clock = n } in
      sim_then q 14 14 (Good p q f e m t k pc2 s1 now ws) Result2 (60 * n) 14 (60 * n + 60 + 0) n (here f p1 now ws s) (evaluate p call e s1) last (omega arith)
      (omega arith)
      (de m p1 pc2 fr (suits_through m u (extent e) hk su) i2 s1 now ws (omega (arith, le, lt)) (fine_later (world p q f ws) s n fine))
      (λ v s2 z lt2 good.
      let same = word_stays u (extent e) v hk good.known.value in
      goes q 14 (Result2 (converted u v)) (60 * s2.clock + 14) s2.clock 0 0 z z s2 (stays q z) (omega arith) (omega arith)
      (regood e a m t k pc2 s1 s now now ws v (converted u v) s2 z same
      (same_truth (converted u v) v (ranged u (converted u v) (converted_fits u v)) (ranged (extent e) v good.known.value) same)
      (λ now2 known. known_of e a t k n s now now2 v (converted u v) s2 refl (no_writes e) refl refl (converted_fits u v) known) good)))
  cast_does false u e m t k pc p1 pc2 hk de fr su i1 i2 s now ws le fine =
      let a = typed.cast u e in
      let g = target_of m t in
      one_operand e t k pc p1 i2.0 (Good p q f a m t k pc2 s now ws) (λ v s. Goes (converted u v) s) s now ws de i1 i2.2 le fine
      (λ n v s2 now2 hv known.
      let cv = converted u v in
      let r = ranged (extent e) v known.value in
      let same : word_for (number_of u (word_for v)) ≡ word_for cv = ap word_for (converts_again u v r) in
      let known2 = known_of e a t k n s now now2 v cv s2 refl (no_writes e) refl refl (converted_fits u v) known in
      let taken : Takes q f g (word_for (number_of u (word_for v))) =
      subst (Takes q f g) (sym same) (takes p q f g u cv (target_suits p q f m t u su) (converted_fits u v)) in
      let w = word_for (number_of u (word_for v)) in
      let step : Reaches q (here f i2.0 now2 ws s2) 1 8 (running (here f i2.1 (put_scratch g (word_for cv) now2) ws (put_state q f g (word_for cv) s2))) =
      subst (λ w. Reaches q (here f i2.0 now2 ws s2) 1 8 (running (here f i2.1 (put_scratch g w now2) ws (put_state q f g w s2)))) same
      (does_convert q f u g (operand_of e t k) (word_for v) i2.0 i2.1 now2 ws s2 i2.3 hv taken) in
      let l = follows p q f a m t k i2.1 pc2 (60 * s2.clock + 22) s now now2 ws cv s2 fr i2.4 (omega arith) known2 in
      goes q 14 (Good p q f a m t k pc2 s now ws cv) (60 * s2.clock + 74) s2.clock (1 + l.j) (8 + l.c) (here f i2.0 now2 ws s2) l.u s2
      (reaches_on q (here f i2.0 now2 ws s2) (here f i2.1 (put_scratch g (word_for cv) now2) ws (put_state q f g (word_for cv) s2)) 1 8 l.j l.c (running l.u)
      step l.reaches)
      (omega (arith, l.within)) (omega arith) l.good)

  -- ---- operations (6.5.5 to 6.5.12)

  module _ (at : Pos) (o : BinOp) (u : IntType) (a b : Expression) (m : Mode) (t k : ℕ) (hu : is_wide u ≡ true) (fr : IsFreeFor m t k)
      (su : Suits p q f m (computed_extent o u)) where
    both_known : {W : World} (n : ℕ) (s : machine.State) (now : Scratch) (v w z : ℤ) (s2 s3 : machine.State) (now2 now3 : Scratch) → operated o u v w ≡ Ok z
        → Known W a t k (record s { clock = n }) now v s2 now2
        → Known W b (free_temporary (waits_in a (writes b) (calls b) t k) t) (free_kept (waits_in a (writes b) (calls b) t k) k) s2 now2
        w s3 now3
        → Known W (typed.binary at o u a b) t k s now z s3 now3
    both_known n s now v w z s2 s3 now2 now3 e ka kb =
        let more = free_more p q f (waits_in a (writes b) (calls b) t k) t k in
        record {
          keeps = keeps_on (calls a || calls b) (calls a) (calls b) t k t k (free_temporary (waits_in a (writes b) (calls b) t k) t)
              (free_kept (waits_in a (writes b) (calls b) t k) k) now now2 now3
              (or_left (calls a) (calls b)) (or_right (calls a) (calls b)) (omega arith) more.0 (omega arith) more.1 ka.keeps kb.keeps;
          fine = kb.fine;
          value = operated_extent o u v w z e;
          after = after_on (λ x. writes a x || writes b x) (writes a) (writes b) s s2 s3 (λ x h. or_left (writes a x) (writes b x) h)
              (λ x h. or_right (writes a x) (writes b x) h) (after_since (writes a) s s2 n ka.after) kb.after;
          rests = tt;
          constant = tt;
        }

    binary_last : (n p3 pc2 : ℕ) (s : machine.State) (now : Scratch) (ws : List Call) (v w : ℤ) (s2 s3 : machine.State) (now2 now3 : Scratch)
        → Operates (function_at q f).code o (reading_of u) m (waits_in a (writes b) (calls b) t k)
        (operand_of b (free_temporary (waits_in a (writes b) (calls b) t k) t) (free_kept (waits_in a (writes b) (calls b) t k) k)) t p3 pc2
        → Holds q f (waits_in a (writes b) (calls b) t k) (word_for v) now3 s3
        → Holds q f (operand_of b (free_temporary (waits_in a (writes b) (calls b) t k) t) (free_kept (waits_in a (writes b) (calls b) t k) k)) (word_for w)
        now3 s3
        → Known (world p q f ws) a t k (record s { clock = n }) now v s2 now2
        → Known (world p q f ws) b (free_temporary (waits_in a (writes b) (calls b) t k) t) (free_kept (waits_in a (writes b) (calls b) t k) k) s2 now2
        w s3 now3
        → (r : Result ℤ Undef) → operated o u v w ≡ r
        → Sim q 14 (60 * s3.clock + 88) s3.clock (here f p3 now3 ws s3) (Good p q f (typed.binary at o u a b) m t k pc2 s now ws) (computed_at at r s3)
    binary_last n p3 pc2 s now ws v w s2 s3 now2 now3 i hl hr ka kb (Err act) e =
        halts q (60 * s3.clock + 88) (here f p3 now3 ws s3) s3 refl refl
    binary_last n p3 pc2 s now ws v w s2 s3 now2 now3 i hl hr ka kb (Ok z) e =
        operates_do p q f (typed.binary at o u a b) o u m (waits_in a (writes b) (calls b) t k)
        (operand_of b (free_temporary (waits_in a (writes b) (calls b) t k) t) (free_kept (waits_in a (writes b) (calls b) t k) k)) t k v w z p3 pc2
        (60 * s3.clock + 88) s now now3 ws s3
        hu (ranged (extent a) v ka.value) (ranged (extent b) w kb.value) fr su i hl hr e (omega arith) (both_known n s now v w z s2 s3 now2 now3 e ka kb)

    pub binary_does : (pc pc2 : ℕ) → DoesAt a t k
        → DoesAt b (free_temporary (waits_in a (writes b) (calls b) t k) t) (free_kept (waits_in a (writes b) (calls b) t k) k)
        → Into (function_at q f).code (sizes p f) (typed.binary at o u a b) m t k pc pc2 → IntoDoes p call q deep f (typed.binary at o u a b) m t k pc pc2
    binary_does pc pc2 da db h s now ws le fine =
        let l = waits_in a (writes b) (calls b) t k in
        let t2 = free_temporary l t in
        let k2 = free_kept l k in
        let r = operand_of b t2 k2 in
        let Result2 = Good p q f (typed.binary at o u a b) m t k pc2 s now ws in
        let last : ℤ → ℤ → machine.State → Run ℤ = λ v w s. computed_at at (operated o u v w) s in
        tick_in q 14 Result2 (here f pc now ws s) (here f h.0 now ws s) s 0 (60 * s.clock)
        (λ s. then_do (evaluate p call a s) (λ v s. then_do (evaluate p call b s) (last v))) (omega arith) refl refl
        (does_nothing q f pc h.0 now ws s h.3)
        (λ n lt.
        let s1 : machine.State = record s { clock = n } in
        sim_then q 14 14 (Good p q f a (mode_of l) t k h.1 s1 now ws) Result2 (60 * n) 74 (60 * n + 60 + 0) n (here f h.0 now ws s) (evaluate p call a s1)
        (λ v s. then_do (evaluate p call b s) (last v)) (omega arith) (omega arith)
        (da (mode_of l) h.0 h.1 (mode_free p q f (constant_of a) (rests_in a) (writes b) (calls b) t k)
        (mode_suits p q f (constant_of a) (rests_in a) (writes b) (calls b) t k (extent a)) h.4 s1 now ws (omega (arith, le, lt))
        (fine_later (world p q f ws) s n fine))
        (λ v s2 z lt2 good.
        let ha = held p q f a (writes b) (calls b) t k h.1 s1 now ws v s2 z good in
        sim_move q 14 Result2 (60 * s2.clock + 74) s2.clock z (here f h.1 ha.now ws s2) (then_do (evaluate p call b s2) (last v)) ha.at
        (sim_then q 14 14 (Good p q f b (mode_of r) t2 k2 h.2 s2 ha.now ws) Result2 (60 * s2.clock) 88 (60 * s2.clock + 74) s2.clock (here f h.1 ha.now ws s2)
        (evaluate p call b s2) (last v) (omega arith) (omega arith)
        (db (mode_of r) h.1 h.2 (mode_free p q f (constant_of b) (rests_in b) writes_none false t2 k2)
        (mode_suits p q f (constant_of b) (rests_in b) writes_none false t2 k2 (extent b)) h.5 s2 ha.now ws (omega (arith, le, lt, lt2)) ha.known.fine)
        (λ w s3 z3 lt3 good3.
        let hb = held p q f b writes_none false t2 k2 h.2 s2 ha.now ws w s3 z3 good3 in
        let hl = stays_there p q f (constant_of a) (rests_in a) (writes b) (calls b) t k (word_for v) ha.now hb.now s2 s3 hb.known.keeps hb.known.after ha.holds
        in
        sim_move q 14 Result2 (60 * s3.clock + 88) s3.clock z3 (here f h.2 hb.now ws s3) (last v w s3) hb.at
        (binary_last n h.2 pc2 s now ws v w s2 s3 ha.now hb.now h.6 hl hb.holds ha.known hb.known (operated o u v w) refl)))))
