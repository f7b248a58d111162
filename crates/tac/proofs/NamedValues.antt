-- The code of expressions names no more temporaries and slots than it has instructions, and few more.
use Rattle.std.proofs.Common.{◌≡◌, ℕ, ◌+◌, ◌-◌, ◌^◌, ◌<◌, ◌≤◌, List, length, Bool, true, false, not, ◌||◌, ℤ, arith}
use Rattle.ctypes.specs.declared.operators.BinOp.TheVariants as op
use Rattle.tree.specs.declared.expression.PrefixOp.TheVariants as prefix
use Rattle.typing_spec.specs.Program as typed
use Rattle.typing_spec.specs.Program.{Place, Value, Arguments}
use Rattle.csem.specs.Machine.{choose}
use Rattle.csem.specs.Expressions.{step_operation}
use Rattle.tac_code.specs.declared.code.Operand.TheVariants as operand
use Rattle.tac_code.specs.declared.code.Target.TheVariants as target
use Rattle.tac_code.specs.declared.code.Reading.TheVariants as reading
use Rattle.tac_code.specs.declared.code.Instruction.{Instruction}
use Rattle.tac_code.specs.declared.code.Instruction.TheVariants as instruction
use Rattle.lower_wf.specs.Asked.{is_wide}
use Rattle.lower_correct.specs.Values.{object_of, calls, arguments_call, writes, arguments_write, writes_none, keeps, reading_of, waits_in, operand_of, free_temporary, free_kept, Mode, Nowhere, To, If, mode_of, target_of}
use Rattle.lower_correct.specs.Places.{found, target_for, free_temporary_at, free_kept_at, cuts}
use Rattle.lower_correct.specs.Code.{zero_word, One, Then, Constantly, Finds, Into, Passes}
use Rattle.tac.specs.inside.Few.{Few, FewAt, FewOf}
use Rattle.tac.proofs.NamedParts.{one_less, NextIn, NextFor, next_in, next_mode, next_for, waits_next, found_few, target_for_few, more_temporaries, more_kept, more_temporaries_at, more_kept_at, Names, past, one, none, join, on_object, ends, constantly, thens, operates, converts, casts, changes, steps_by, parts, gets, puts, alters, alters_by, hands_over, loads, calls_few, truths}

behind : (a p b : ℕ) → a + 1 ≡ p → p ≤ b → a < b
behind a p b e h = omega (arith, e, h)

further : (a p b : ℕ) → a < p → p ≤ b → a < b
further a p b h g = omega (arith, h, g)

up : (t a p : ℕ) → t ≤ a → a + 1 ≡ p → t ≤ p
up t a p h e = omega (arith, h, e)

along_it : (t a p : ℕ) → t ≤ a → a ≤ p → t ≤ p
along_it t a p h g = omega (arith, h, g)

next_to : (n t a p : ℕ) → n ≤ t + 1 → t ≤ a → a < p → n ≤ p
next_to n t a p h g l = omega (arith, h, g, l)

one_behind : (a b : ℕ) → a + 1 ≡ b → a < b
one_behind a b e = omega (arith, e)

few_of : (t a l : ℕ) → t ≤ a → a ≤ l → l < 4611686018427387904 → Few t
few_of t a l h g s = omega (arith, h, g, s)

few_next : (t a l : ℕ) → t ≤ a → a ≤ l → l < 4611686018427387904 → Few (t + 1)
few_next t a l h g s = omega (arith, h, g, s)

few_beside : (j t a l : ℕ) → j ≤ t + 1 → t ≤ a → a ≤ l → l < 4611686018427387904 → Few (j + 1)
few_beside j t a l h f g s = omega (arith, h, f, g, s)

pub from_zero : (a : ℕ) → 0 ≤ a
from_zero a = omega arith

plus_one : (t : ℕ) → t + 1 ≤ t + 1
plus_one t = omega arith

module _ (w : List Instruction) (short : length w < 4611686018427387904) where
  -- the first free temporary and slot at a position of the code: no more than the instructions before it
  abbrev pub At : ℕ → ℕ → ℕ → Type 0
  At t k a = (t ≤ a) × (k ≤ a) × (a ≤ length w)

  pub next : {t k : ℕ} (i : Instruction) (a p : ℕ) → One w i a p → At t k a → At t k p
  next {t} {k} i a p o h = (up t a p h.0 o.next, up k a p h.1 o.next, past w i a p o)

  pub along : {t k a p : ℕ} → Names w a p → At t k a → At t k p
  along {t} {k} {a} {p} n h = (along_it t a p h.0 n.forward, along_it k a p h.1 n.forward, n.stays h.2)

  beside : {t k a : ℕ} (t2 k2 p : ℕ) → At t k a → a < p → p ≤ length w → t2 ≤ t + 1 → k2 ≤ k + 1 → At t2 k2 p
  beside {t} {k} {a} t2 k2 p h l m x y = (next_to t2 t a p x h.0 l, next_to k2 k a p y h.1 l, m)

  pub few_temporary : {t k a : ℕ} → At t k a → Few t
  few_temporary {t} {k} {a} h = few_of t a (length w) h.0 h.2 short

  pub next_few : {t k a : ℕ} → At t k a → Few (t + 1)
  next_few {t} {k} {a} h = few_next t a (length w) h.0 h.2 short

  pub few_slot : {t k a : ℕ} → At t k a → Few k
  few_slot {t} {k} {a} h = few_of k a (length w) h.1 h.2 short

  beside_few : {t k a : ℕ} (j : ℕ) → At t k a → j ≤ t + 1 → Few (j + 1)
  beside_few {t} {k} {a} j h l = few_beside j t a (length w) l h.0 h.2 short

  waits_at : (e : Value) (written : ℕ → Bool) (b : Bool) (t k a : ℕ) → At t k a → NextIn (waits_in e written b t k)
  waits_at e written b t k a h = waits_next e written b t k (next_few h) (few_slot h)

  found_at : (place : Place) (c : Bool) (t k a : ℕ) → At t k a → FewAt (found place c t k)
  found_at place c t k a h = found_few place c t k (few_temporary h) (few_slot h)

  -- code that has an instruction
  pub record Node (a b : ℕ) : Type 0 where
    pub more : a < b
    pub names : Names w a b

  node : (i : Instruction) (a p b : ℕ) → One w i a p → FewOf i → Names w p b → Node a b
  node i a p b o few rest = record { more = behind a p b o.next rest.forward; names = join w (one w i a p o few) rest }

  first : (a p b : ℕ) → Node a p → Names w p b → Node a b
  first a p b x rest = record { more = further a p b x.more rest.forward; names = join w x.names rest }

  constant_on : (m : Mode) (v : ℤ) (a b : ℕ) → Constantly w m v a b → a < b
  constant_on Nowhere v a b i = one_behind a b i.next
  constant_on (To g) v a b i = one_behind a b i.next
  constant_on (If sense to) v a b i = one_behind a b i.next

  module _ (size : Place → ℕ) where
    -- what the code of an expression does, for each use of its value
    is_zero : (e : Value) (m : Mode) (t k a p q b : ℕ) → At t k a → NextFor m → One w instruction.Nothing a p
        → ((n : Mode) (q : ℕ) → NextFor n → Into w size e n t k p q → Names w p q) → Into w size e (mode_of (operand_of e t k)) t k p q
        → Then w op.Equal reading.Signed m (operand_of e t k) zero_word t q b → Node a b
    is_zero e m t k a p q b h f i1 does i2 i3 =
        let x = operand_of e t k in
        let fx = waits_at e writes_none false t k a h in
        node _ a p b i1 tt (join w (does (mode_of x) q (next_mode x fx) i2) (thens w op.Equal reading.Signed m x zero_word t q b (next_for m f) (next_in x fx) tt (few_temporary h) i3))

    mutual
      pub into : (e : Value) (m : Mode) (t k a b : ℕ) → At t k a → NextFor m → Into w size e m t k a b → Node a b
      into (typed.constant u v) m t k a b h f i = record { more = constant_on m v a b i; names = constantly w m v a b (next_for m f) i }
      into (typed.read u place) m t k a b h f i = on_object w (object_of place) _ _ i
          (λ x i. node _ a i.0 b i.1 tt (ends w m (operand.Object x) i.0 b (next_for m f) tt i.2))
          (λ i. first a i.0 b (finds place false t k a i.0 h i.1)
          (gets w u (found place false t k) m t i.0 b (next_for m f) (found_at place false t k a h) (few_temporary h) i.2))
      into (typed.assigned at u place e) m t k a b h f i = on_object w (object_of place) _ _ i
          (λ x i. let h1 = next _ i.0 i.1 i.4 (next _ a i.0 i.3 h) in
          node _ a i.0 b i.3 tt (join w (one w _ i.0 i.1 i.4 tt)
          (join w (converts w (keeps u e) (λ n y z. Into w size e n t k y z) u (operand_of e t k) (target.Object x) i.1 i.2 tt (waits_at e writes_none false t k a h)
          (λ n q fn j. (into e n t k i.1 q h1 fn j).names) i.5)
          (ends w m (operand.Object x) i.2 b (next_for m f) tt i.6))))
          (λ i. let s = found place (calls e) t k in
          let t2 = free_temporary_at s t in
          let k2 = free_kept_at s k in
          let o = operand_of e t2 k2 in
          let h1 = next _ a i.0 i.3 h in
          let there = finds place (calls e) t k i.0 i.1 h1 i.4 in
          let h2 = beside t2 k2 i.1 h1 there.more (there.names.stays h1.2) (more_temporaries_at s t) (more_kept_at s k) in
          let fo = waits_at e writes_none false t2 k2 i.1 h2 in
          node _ a i.0 b i.3 tt (join w there.names (join w (into e (mode_of o) t2 k2 i.1 i.2 h2 (next_mode o fo) i.5).names
          (puts w (cuts u m || keeps u e) u o s m t2 i.2 b (next_for m f) (next_in o fo) (found_at place (calls e) t k a h) (few_temporary h2) i.6))))
      into (typed.compound at o u of place e) m t k a b h f i = on_object w (object_of place) _ _ i
          (λ x i. let h1 = next _ i.0 i.1 i.5 (next _ a i.0 i.4 h) in
          let y = operand_of e t k in
          let fy = waits_at e writes_none false t k a h in
          node _ a i.0 b i.4 tt (join w (one w _ i.0 i.1 i.5 tt) (join w (into e (mode_of y) t k i.1 i.2 h1 (next_mode y fy) i.6).names
          (join w (changes w (is_wide u) o u of x y t i.2 i.3 (next_in y fy) (few_temporary h) i.7) (ends w m (operand.Object x) i.3 b (next_for m f) tt i.8)))))
          (λ i. let s = found place (calls e) t k in
          let t2 = free_temporary_at s t in
          let k2 = free_kept_at s k in
          let y = operand_of e t2 k2 in
          let j = free_temporary y t2 in
          let h1 = next _ a i.0 i.4 h in
          let there = finds place (calls e) t k i.0 i.1 h1 i.5 in
          let h2 = beside t2 k2 i.1 h1 there.more (there.names.stays h1.2) (more_temporaries_at s t) (more_kept_at s k) in
          let fy = waits_at e writes_none false t2 k2 i.1 h2 in
          let fs = found_at place (calls e) t k a h in
          let fj = one_less j (beside_few j h2 (more_temporaries y t2)) in
          node _ a i.0 b i.4 tt (join w there.names (join w (into e (mode_of y) t2 k2 i.1 i.2 h2 (next_mode y fy) i.6).names
          (join w (one w _ i.2 i.3 i.7 (fj, fs)) (alters w o u of y s m j i.3 b (next_for m f) (next_in y fy) fs fj i.8)))))
      into (typed.stepped at moment o u of place) m t k a b h f i = on_object w (object_of place) _ _ i
          (λ x i. node _ a i.0 b i.2 tt (join w (one w _ i.0 i.1 i.3 tt) (steps_by w moment (is_wide u) (step_operation o) u of m x t i.1 b f (next_few h) i.4)))
          (λ i. let s = found place false t k in
          let j = free_temporary_at s t in
          let h1 = next _ a i.0 i.3 h in
          let fs = found_at place false t k a h in
          let fj = beside_few j h (more_temporaries_at s t) in
          node _ a i.0 b i.3 tt (join w (finds place false t k i.0 i.1 h1 i.4).names (join w (one w _ i.1 i.2 i.5 (one_less j fj, fs))
          (alters_by w moment (step_operation o) u of s m j i.2 b (next_for m f) fs fj i.6))))
      into (typed.unary at prefix.Plus u e) m t k a b h f i = node _ a i.0 b i.1 tt (into e m t k i.0 b (next _ a i.0 i.1 h) f i.2).names
      into (typed.unary at prefix.Minus u e) m t k a b h f i =
          let x = operand_of e t k in
          let fx = waits_at e writes_none false t k a h in
          node _ a i.0 b i.2 tt (join w (into e (mode_of x) t k i.0 i.1 (next _ a i.0 i.2 h) (next_mode x fx) i.3).names
          (thens w op.Sub (reading_of u) m zero_word x t i.1 b (next_for m f) tt (next_in x fx) (few_temporary h) i.4))
      into (typed.unary at prefix.Complement u e) m t k a b h f i =
          let x = operand_of e t k in
          let fx = waits_at e writes_none false t k a h in
          node _ a i.0 b i.2 tt (join w (into e (mode_of x) t k i.0 i.1 (next _ a i.0 i.2 h) (next_mode x fx) i.3).names
          (thens w op.BitXor (reading_of u) m x (operand.Constant (2 ^ 32 - 1)) t i.1 b (next_for m f) (next_in x fx) tt (few_temporary h) i.4))
      into (typed.unary at prefix.Not u e) (If sense to) t k a b h f i = node _ a i.0 b i.1 tt (into e (If (not sense) to) t k i.0 b (next _ a i.0 i.1 h) tt i.2).names
      into (typed.unary at prefix.Not u e) Nowhere t k a b h f i = is_zero e Nowhere t k a i.0 i.1 b h f i.2 (λ n q fn j. (into e n t k i.0 q (next _ a i.0 i.2 h) fn j).names) i.3 i.4
      into (typed.unary at prefix.Not u e) (To g) t k a b h f i = is_zero e (To g) t k a i.0 i.1 b h f i.2 (λ n q fn j. (into e n t k i.0 q (next _ a i.0 i.2 h) fn j).names) i.3 i.4
      into (typed.binary at o u x y) m t k a b h f i =
          let l = waits_in x (writes y) (calls y) t k in
          let t2 = free_temporary l t in
          let k2 = free_kept l k in
          let r = operand_of y t2 k2 in
          let fl = waits_at x (writes y) (calls y) t k a h in
          let h1 = next _ a i.0 i.3 h in
          let left = into x (mode_of l) t k i.0 i.1 h1 (next_mode l fl) i.4 in
          let h2 = beside t2 k2 i.1 h1 left.more (left.names.stays h1.2) (more_temporaries l t) (more_kept l k) in
          let fr = waits_at y writes_none false t2 k2 i.1 h2 in
          node _ a i.0 b i.3 tt (join w left.names (join w (into y (mode_of r) t2 k2 i.1 i.2 h2 (next_mode r fr) i.5).names
          (operates w o (reading_of u) m l r t i.2 b (next_for m f) (next_in l fl) (next_in r fr) (few_temporary h) i.6)))
      into (typed.both_true x y) (If sense to) t k a b h f i =
          let h1 = next _ a i.0 i.2 h in
          let left = into x (If false (choose sense b to)) t k i.0 i.1 h1 tt i.3 in
          node _ a i.0 b i.2 tt (join w left.names (into y (If sense to) t k i.1 b (along left.names h1) tt i.4).names)
      into (typed.both_true x y) Nowhere t k a b h f i =
          let h1 = next _ a i.0 i.4 h in
          let left = into x (If false i.3) t k i.0 i.1 h1 tt i.5 in
          let right = into y (If false i.3) t k i.1 i.2 (along left.names h1) tt i.6 in
          node _ a i.0 b i.4 tt (join w left.names (join w right.names (truths w (target_of Nowhere t) i.2 i.3 b (few_temporary h) i.7)))
      into (typed.both_true x y) (To g) t k a b h f i =
          let h1 = next _ a i.0 i.4 h in
          let left = into x (If false i.3) t k i.0 i.1 h1 tt i.5 in
          let right = into y (If false i.3) t k i.1 i.2 (along left.names h1) tt i.6 in
          node _ a i.0 b i.4 tt (join w left.names (join w right.names (truths w g i.2 i.3 b (next_for (To g) f) i.7)))
      into (typed.one_true x y) (If sense to) t k a b h f i =
          let h1 = next _ a i.0 i.2 h in
          let left = into x (If true (choose sense to b)) t k i.0 i.1 h1 tt i.3 in
          node _ a i.0 b i.2 tt (join w left.names (into y (If sense to) t k i.1 b (along left.names h1) tt i.4).names)
      into (typed.one_true x y) Nowhere t k a b h f i =
          let h1 = next _ a i.0 i.4 h in
          let left = into x (If true i.2) t k i.0 i.1 h1 tt i.5 in
          let right = into y (If false i.3) t k i.1 i.2 (along left.names h1) tt i.6 in
          node _ a i.0 b i.4 tt (join w left.names (join w right.names (truths w (target_of Nowhere t) i.2 i.3 b (few_temporary h) i.7)))
      into (typed.one_true x y) (To g) t k a b h f i =
          let h1 = next _ a i.0 i.4 h in
          let left = into x (If true i.2) t k i.0 i.1 h1 tt i.5 in
          let right = into y (If false i.3) t k i.1 i.2 (along left.names h1) tt i.6 in
          node _ a i.0 b i.4 tt (join w left.names (join w right.names (truths w g i.2 i.3 b (next_for (To g) f) i.7)))
      into (typed.chosen u c x y) m t k a b h f i =
          let h1 = next _ a i.0 i.4 h in
          let test = into c (If false i.3) t k i.0 i.1 h1 tt i.5 in
          let h2 = along test.names h1 in
          let left = into x m t k i.1 i.2 h2 f i.6 in
          let h3 = next _ i.2 i.3 i.7 (along left.names h2) in
          node _ a i.0 b i.4 tt (join w test.names (join w left.names (join w (one w _ i.2 i.3 i.7 tt) (into y m t k i.3 b h3 f i.8).names)))
      into (typed.sequence x y) m t k a b h f i =
          let h1 = next _ a i.0 i.2 h in
          let left = into x Nowhere t k i.0 i.1 h1 tt i.3 in
          node _ a i.0 b i.2 tt (join w left.names (into y m t k i.1 b (along left.names h1) f i.4).names)
      into (typed.cast u e) m t k a b h f i =
          let h1 = next _ a i.0 i.1 h in
          node _ a i.0 b i.1 tt (casts w (keeps u e) (λ n y z. Into w size e n t k y z) u (operand_of e t k) m t i.0 b f (waits_at e writes_none false t k a h) (few_temporary h)
          (λ n q fn j. (into e n t k i.0 q h1 fn j).names) i.2)
      into (typed.discarded e) m t k a b h f i =
          node _ a i.0 b i.2 tt (join w (into e Nowhere t k i.0 i.1 (next _ a i.0 i.2 h) tt i.3).names (ends w m zero_word i.1 b (next_for m f) tt i.4))
      into (typed.call at callee result used arguments) m t k a b h f i =
          let h1 = next _ a i.0 i.2 h in
          node _ a i.0 b i.2 tt (join w (passes arguments 0 k i.0 i.1 (from_zero i.0, h1.1, h1.2) i.3) (calls_few w callee m i.1 b (next_for m f) i.4))

      pub finds : (place : Place) (c : Bool) (t k a b : ℕ) → At t k a → Finds w size place c t k a b → Node a b
      finds (typed.named at what) c t k a b h i = record { more = one_behind a b i.next; names = one w _ a b i tt }
      finds (typed.element at array index) c t k a b h i =
          let s = found array (calls index) t k in
          let t2 = free_temporary_at s t in
          let k2 = free_kept_at s k in
          let x = operand_of index t2 k2 in
          let j = free_temporary x t2 in
          let h1 = next _ a i.0 i.3 h in
          let there = finds array (calls index) t k i.0 i.1 h1 i.4 in
          let h2 = beside t2 k2 i.1 h1 there.more (there.names.stays h1.2) (more_temporaries_at s t) (more_kept_at s k) in
          let fx = waits_at index writes_none false t2 k2 i.1 h2 in
          node _ a i.0 b i.3 tt (join w there.names (join w (into index (mode_of x) t2 k2 i.1 i.2 h2 (next_mode x fx) i.5).names
          (parts w s (target_for c t k) x (size (typed.element at array index)) j i.2 b (target_for_few c t k (few_temporary h) (few_slot h))
          (found_at array (calls index) t k a h) (next_in x fx) (one_less j (beside_few j h2 (more_temporaries x t2))) i.6)))

      pub passes : (arguments : Arguments) (t k a b : ℕ) → At t k a → Passes w size arguments t k a b → Names w a b
      passes typed.no_arguments t k a b h i = none w a b i
      passes (typed.and_number u e more) t k a b h i =
          let o = waits_in e (arguments_write more) (arguments_call more) t k in
          let fo = waits_at e (arguments_write more) (arguments_call more) t k a h in
          let value = into e (mode_of o) t k a i.0 h (next_mode o fo) i.2 in
          let h1 = beside (t + 1) (free_kept o k) i.0 h value.more (value.names.stays h.2) (plus_one t) (more_kept o k) in
          join w value.names (join w (passes more (t + 1) (free_kept o k) i.0 i.1 h1 i.3) (loads w (keeps u e) u o t i.1 b (next_in o fo) (few_temporary h) i.4))
      passes (typed.and_array array more) t k a b h i =
          let s = found array (arguments_call more) t k in
          let there = finds array (arguments_call more) t k a i.0 h i.2 in
          let h1 = beside (t + 1) (free_kept_at s k) i.0 h there.more (there.names.stays h.2) (plus_one t) (more_kept_at s k) in
          join w there.names (join w (passes more (t + 1) (free_kept_at s k) i.0 i.1 h1 i.3)
          (hands_over w s t i.1 b (found_at array (arguments_call more) t k a h) (few_temporary h) i.4))
