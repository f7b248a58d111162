-- Operations, and comparisons that jump.
use Rattle.std.proofs.Common.{◌≡◌, ℕ, ◌+◌, ◌*◌, ◌≤◌, List, Some, Bool, true, false, not, ◌&&◌, ◌||◌, ℤ, Result, Ok, refl, sym, ap, ◌∙◌, subst, arith}
use Rattle.std.specs.Prelude.{◌==◌, if◌then◌else◌, int_le, int_lt, IfOk}
use Rattle.std.proofs.lemmas.Int.{ints}
use Rattle.std.proofs.lemmas.Bool.Decides.{nat_tests}
use Rattle.ctypes.specs.declared.types.IntType.{IntType}
use Rattle.ctypes.specs.declared.types.IntType.TheVariants as ty
use Rattle.ctypes.specs.declared.operators.BinOp.{BinOp}
use Rattle.ctypes.specs.declared.operators.BinOp.TheVariants as op
use Rattle.ctypes.specs.declared.operators.Undef.{Undef}
use Rattle.ctypes.specs.Types.{IsValueOf, truth, of_truth, converted}
use Rattle.ctypes.specs.Arithmetic.{result_type}
use Rattle.typing_spec.specs.Operators.{operated}
use Rattle.typing_spec.specs.Program as typed
use Rattle.typing_spec.specs.Program.{Value as Expression}
use Rattle.csem.specs.Machine as machine
use Rattle.csem.specs.Machine.{choose}
use Rattle.csem.proofs.Fits.{operation_fits}
use Rattle.tac_code.specs.declared.code.Operand.{Operand}
use Rattle.tac_code.specs.declared.code.Operand.TheVariants as operand
use Rattle.tac_code.specs.declared.code.Target.{Target}
use Rattle.tac_code.specs.declared.code.Target.TheVariants as target
use Rattle.tac_code.specs.declared.code.Reading.{Reading}
use Rattle.tac_code.specs.declared.code.Reading.TheVariants as reading
use Rattle.tac_code.specs.declared.code.Operation.{Operation}
use Rattle.tac_code.specs.declared.code.Operation.TheVariants as operation
use Rattle.tac_code.specs.declared.code.Comparison.{Comparison}
use Rattle.tac_code.specs.declared.code.Comparison.TheVariants as comparison
use Rattle.tac_code.specs.declared.code.Instruction.TheVariants as instruction
use Rattle.tac_code.specs.Code.{Program, function_at}
use Rattle.tac_code.specs.Run.{Call, State, running, word, word_for, number_of, type_of, word_if_defined, operate, holds, operator_of}
use Rattle.lower_wf.specs.Asked.{is_wide}
use Rattle.lower_correct.specs.Values.{calls, extent, reading_of, computed_extent, Mode, Nowhere, To, If, target_of}
use Rattle.lower_correct.specs.Code.{One, Computes, Then, Compares, Operates}
use Rattle.lower_correct.proofs.Words.{Ranged, truth_of, truth_fits, operated_words, number_again, wide_word, bool_cases}
use Rattle.lower_correct.proofs.Steps.{Reaches, reaches_on, GoesTo, goes}
use Rattle.lower_correct.proofs.Standing.{Scratch, here, put_scratch, set_same, put_state, Takes, Holds, does_compute, does_branch, world}
use Rattle.lower_correct.proofs.Goods.{Keeps, keeps_put, IsFreeFor, meets, Known, known_with, Suits, takes, target_suits, Good, follows}

-- ---- the results of operations

same_ok : (r : Result ℤ Undef) (v w : ℤ) → r ≡ Ok v → r ≡ Ok w → v ≡ w
same_ok r v w e g = let h : Ok v ≡ Ok w = sym e ∙ g in cc

-- a comparison gives 0 or 1
gives_truth : (b : Bool) (w : ℤ) (r : Result ℤ Undef) → r ≡ Ok (of_truth b) → r ≡ Ok w → IsValueOf ty.Bool w
gives_truth b w r e g = subst (IsValueOf ty.Bool) (same_ok r (of_truth b) w e g) (truth_fits b)

gives_value : (o : BinOp) (t u : IntType) (a b w : ℤ) → result_type o t ≡ u → operated o t a b ≡ Ok w → IsValueOf u w
gives_value o t u a b w h e =
    subst (λ z. IsValueOf z w) h (subst (λ r. IfOk r (λ v. IsValueOf (result_type o t) v)) e (operation_fits o t a b))

pub operated_extent : (o : BinOp) (t : IntType) (a b w : ℤ) → operated o t a b ≡ Ok w → IsValueOf (computed_extent o t) w
operated_extent op.Mul t a b w e = gives_value op.Mul t t a b w refl e
operated_extent op.Div t a b w e = gives_value op.Div t t a b w refl e
operated_extent op.Rem t a b w e = gives_value op.Rem t t a b w refl e
operated_extent op.Add t a b w e = gives_value op.Add t t a b w refl e
operated_extent op.Sub t a b w e = gives_value op.Sub t t a b w refl e
operated_extent op.Shl t a b w e = gives_value op.Shl t t a b w refl e
operated_extent op.Shr t a b w e = gives_value op.Shr t t a b w refl e
operated_extent op.Less t a b w e = gives_truth _ w (operated op.Less t a b) refl e
operated_extent op.Greater t a b w e = gives_truth _ w (operated op.Greater t a b) refl e
operated_extent op.LessEqual t a b w e = gives_truth _ w (operated op.LessEqual t a b) refl e
operated_extent op.GreaterEqual t a b w e = gives_truth _ w (operated op.GreaterEqual t a b) refl e
operated_extent op.Equal t a b w e = gives_truth _ w (operated op.Equal t a b) refl e
operated_extent op.NotEqual t a b w e = gives_truth _ w (operated op.NotEqual t a b) refl e
operated_extent op.BitAnd t a b w e = gives_value op.BitAnd t t a b w refl e
operated_extent op.BitXor t a b w e = gives_value op.BitXor t t a b w refl e
operated_extent op.BitOr t a b w e = gives_value op.BitOr t t a b w refl e

pub word_operated : (c : Operation) (t : IntType) (a b w : ℤ) → is_wide t ≡ true → Ranged a → Ranged b → operated (operator_of c) t a b ≡ Ok w
    → operate c (reading_of t) (word_for a) (word_for b) ≡ Some (word_for w)
word_operated c t a b w h ra rb e = ap word_if_defined (operated_words (operator_of c) t a b h ra rb ∙ e)

flips : (b : Bool) → operate operation.ExclusiveOr reading.Signed (word_for (of_truth b)) 1 ≡ Some (word_for (of_truth (not b)))
flips true = refl
flips false = refl

not_less : (x y : ℤ) → int_le x y ≡ not (int_lt y x)
not_less x y = grind (arith, nat_tests, ints)

module _ (p : typed.Program) (q : Program) (f : ℕ) where
  -- an operation was done: its word went to g, and perhaps another to temporary t before
  pub record Computed (g : Target) (t w pc2 : ℕ) (now : Scratch) (ws : List Call) (s : machine.State) (u : State) : Type 0 where
    pub j : ℕ
    pub c : ℕ
    pub now2 : Scratch
    pub reaches : Reaches q u j c (running (here f pc2 (put_scratch g w now2) ws (put_state q f g w s)))
    pub small : c ≤ 22
    pub keeps : (z : Bool) (i k : ℕ) (old : Scratch) → i ≤ t → Keeps z i k old now → Keeps z i k old now2

  direct : (c : Operation) (r : Reading) (g : Target) (x y : Operand) (t a b w pc pc2 : ℕ) (now : Scratch) (ws : List Call) (s : machine.State)
      → One (function_at q f).code (instruction.Compute c r g x y) pc pc2 → Holds q f x a now s → Holds q f y b now s → operate c r a b ≡ Some w → Takes q f g w
      → Computed g t w pc2 now ws s (here f pc now ws s)
  direct c r g x y t a b w pc pc2 now ws s i hx hy e k = record {
    j = 1;
    c = 11;
    now2 = now;
    reaches = does_compute q f c r g x y a b w pc pc2 now ws s i hx hy e k;
    small = omega arith;
    keeps = λ z i k old h n. n;
  }

  -- a comparison and its opposite
  opposite : (r : Reading) (g : Target) (x y : Operand) (t a b : ℕ) (v : Bool) (pc p1 pc2 : ℕ) (now : Scratch) (ws : List Call) (s : machine.State)
      → One (function_at q f).code (instruction.Compute operation.Less r (target.Temporary t) x y) pc p1
      → One (function_at q f).code (instruction.Compute operation.ExclusiveOr reading.Signed g (operand.Temporary t) (operand.Constant 1)) p1 pc2
      → Holds q f x a now s → Holds q f y b now s → operate operation.Less r a b ≡ Some (word_for (of_truth v)) → Takes q f g (word_for (of_truth (not v)))
      → Computed g t (word_for (of_truth (not v))) pc2 now ws s (here f pc now ws s)
  opposite r g x y t a b v pc p1 pc2 now ws s i1 i2 hx hy e k =
      let w = word_for (of_truth v) in
      let w2 = word_for (of_truth (not v)) in
      let now2 = put_scratch (target.Temporary t) w now in
      record {
        j = 1 + 1;
        c = 11 + 11;
        now2 = now2;
        reaches = reaches_on q (here f pc now ws s) (here f p1 now2 ws s) 1 11 1 11 (running (here f pc2 (put_scratch g w2 now2) ws (put_state q f g w2 s)))
            (does_compute q f operation.Less r (target.Temporary t) x y a b w pc p1 now ws s i1 hx hy e tt)
            (does_compute q f operation.ExclusiveOr reading.Signed g (operand.Temporary t) (operand.Constant 1) w 1 w2 p1 pc2 now2 ws s i2
            (set_same now.temporaries t (word w)) refl (flips v) k);
        small = omega arith;
        keeps = λ z i k old h n. keeps_put (target.Temporary t) w z i k old now h n;
      }

  opposite_to : (r : Reading) (g : Target) (x y : Operand) (t a b : ℕ) (v z : Bool) (w : ℤ) (pc p1 pc2 : ℕ) (now : Scratch) (ws : List Call) (s : machine.State)
      → One (function_at q f).code (instruction.Compute operation.Less r (target.Temporary t) x y) pc p1
      → One (function_at q f).code (instruction.Compute operation.ExclusiveOr reading.Signed g (operand.Temporary t) (operand.Constant 1)) p1 pc2
      → Holds q f x a now s → Holds q f y b now s → operate operation.Less r a b ≡ Some (word_for (of_truth v)) → Takes q f g (word_for w)
      → z ≡ not v → of_truth z ≡ w → Computed g t (word_for w) pc2 now ws s (here f pc now ws s)
  opposite_to r g x y t a b v z w pc p1 pc2 now ws s i1 i2 hx hy e k h1 h2 =
      let same : of_truth (not v) ≡ w = ap of_truth (sym h1) ∙ h2 in
      subst (λ n. Computed g t (word_for n) pc2 now ws s (here f pc now ws s)) same
      (opposite r g x y t a b v pc p1 pc2 now ws s i1 i2 hx hy e (subst (λ n. Takes q f g (word_for n)) (sym same) k))

  ok_is : (v w : ℤ) → (let r : Result ℤ Undef = Ok v in r ≡ Ok w) → v ≡ w
  ok_is v w e = same_ok (Ok v) v w refl e

  pub computes_do : (o : BinOp) (u : IntType) (g : Target) (x y : Operand) (t : ℕ) (a b w : ℤ) (pc pc2 : ℕ) (now : Scratch) (ws : List Call) (s : machine.State)
      → is_wide u ≡ true → Ranged a → Ranged b → Computes (function_at q f).code o (reading_of u) g x y t pc pc2
      → Holds q f x (word_for a) now s → Holds q f y (word_for b) now s → operated o u a b ≡ Ok w → Takes q f g (word_for w)
      → Computed g t (word_for w) pc2 now ws s (here f pc now ws s)
  computes_do op.Mul u g x y t a b w pc pc2 now ws s h ra rb i hx hy e k =
      direct operation.Multiply (reading_of u) g x y t (word_for a) (word_for b) (word_for w) pc pc2 now ws s i hx hy
      (word_operated operation.Multiply u a b w h ra rb e) k
  computes_do op.Div u g x y t a b w pc pc2 now ws s h ra rb i hx hy e k =
      direct operation.Divide (reading_of u) g x y t (word_for a) (word_for b) (word_for w) pc pc2 now ws s i hx hy
      (word_operated operation.Divide u a b w h ra rb e) k
  computes_do op.Rem u g x y t a b w pc pc2 now ws s h ra rb i hx hy e k =
      direct operation.Remainder (reading_of u) g x y t (word_for a) (word_for b) (word_for w) pc pc2 now ws s i hx hy
      (word_operated operation.Remainder u a b w h ra rb e) k
  computes_do op.Add u g x y t a b w pc pc2 now ws s h ra rb i hx hy e k =
      direct operation.Add (reading_of u) g x y t (word_for a) (word_for b) (word_for w) pc pc2 now ws s i hx hy (word_operated operation.Add u a b w h ra rb e)
      k
  computes_do op.Sub u g x y t a b w pc pc2 now ws s h ra rb i hx hy e k =
      direct operation.Subtract (reading_of u) g x y t (word_for a) (word_for b) (word_for w) pc pc2 now ws s i hx hy
      (word_operated operation.Subtract u a b w h ra rb e) k
  computes_do op.Shl u g x y t a b w pc pc2 now ws s h ra rb i hx hy e k =
      direct operation.ShiftLeft (reading_of u) g x y t (word_for a) (word_for b) (word_for w) pc pc2 now ws s i hx hy
      (word_operated operation.ShiftLeft u a b w h ra rb e) k
  computes_do op.Shr u g x y t a b w pc pc2 now ws s h ra rb i hx hy e k =
      direct operation.ShiftRight (reading_of u) g x y t (word_for a) (word_for b) (word_for w) pc pc2 now ws s i hx hy
      (word_operated operation.ShiftRight u a b w h ra rb e) k
  computes_do op.Less u g x y t a b w pc pc2 now ws s h ra rb i hx hy e k =
      direct operation.Less (reading_of u) g x y t (word_for a) (word_for b) (word_for w) pc pc2 now ws s i hx hy
      (word_operated operation.Less u a b w h ra rb e) k
  computes_do op.Greater u g x y t a b w pc pc2 now ws s h ra rb i hx hy e k =
      direct operation.Less (reading_of u) g y x t (word_for b) (word_for a) (word_for w) pc pc2 now ws s i hy hx
      (word_operated operation.Less u b a w h rb ra e) k
  computes_do op.LessEqual u g x y t a b w pc pc2 now ws s h ra rb i hx hy e k =
      opposite_to (reading_of u) g y x t (word_for b) (word_for a) (int_lt (converted u b) (converted u a)) (int_le (converted u a) (converted u b)) w pc i.0
      pc2 now ws s i.1 i.2 hy hx
      (word_operated operation.Less u b a (of_truth (int_lt (converted u b) (converted u a))) h rb ra refl) k (not_less (converted u a) (converted u b))
      (ok_is (of_truth (int_le (converted u a) (converted u b))) w e)
  computes_do op.GreaterEqual u g x y t a b w pc pc2 now ws s h ra rb i hx hy e k =
      opposite_to (reading_of u) g x y t (word_for a) (word_for b) (int_lt (converted u a) (converted u b)) (int_le (converted u b) (converted u a)) w pc i.0
      pc2 now ws s i.1 i.2 hx hy
      (word_operated operation.Less u a b (of_truth (int_lt (converted u a) (converted u b))) h ra rb refl) k (not_less (converted u b) (converted u a))
      (ok_is (of_truth (int_le (converted u b) (converted u a))) w e)
  computes_do op.Equal u g x y t a b w pc pc2 now ws s h ra rb i hx hy e k =
      direct operation.Equal (reading_of u) g x y t (word_for a) (word_for b) (word_for w) pc pc2 now ws s i hx hy
      (word_operated operation.Equal u a b w h ra rb e) k
  computes_do op.NotEqual u g x y t a b w pc pc2 now ws s h ra rb i hx hy e k =
      direct operation.NotEqual (reading_of u) g x y t (word_for a) (word_for b) (word_for w) pc pc2 now ws s i hx hy
      (word_operated operation.NotEqual u a b w h ra rb e) k
  computes_do op.BitAnd u g x y t a b w pc pc2 now ws s h ra rb i hx hy e k =
      direct operation.And (reading_of u) g x y t (word_for a) (word_for b) (word_for w) pc pc2 now ws s i hx hy (word_operated operation.And u a b w h ra rb e)
      k
  computes_do op.BitXor u g x y t a b w pc pc2 now ws s h ra rb i hx hy e k =
      direct operation.ExclusiveOr (reading_of u) g x y t (word_for a) (word_for b) (word_for w) pc pc2 now ws s i hx hy
      (word_operated operation.ExclusiveOr u a b w h ra rb e) k
  computes_do op.BitOr u g x y t a b w pc pc2 now ws s h ra rb i hx hy e k =
      direct operation.Or (reading_of u) g x y t (word_for a) (word_for b) (word_for w) pc pc2 now ws s i hx hy (word_operated operation.Or u a b w h ra rb e) k

  -- an operation and the use of its value
  pub then_does : (e : Expression) (o : BinOp) (u : IntType) (m : Mode) (x y : Operand) (t k : ℕ) (a b w : ℤ) (pc pc2 hi : ℕ) (before : machine.State)
      (old now : Scratch) (ws : List Call) (s : machine.State)
      → is_wide u ≡ true → Ranged a → Ranged b → IsFreeFor m t k → Suits p q f m (extent e) → Then (function_at q f).code o (reading_of u) m x y t pc pc2
      → Holds q f x (word_for a) now s → Holds q f y (word_for b) now s → operated o u a b ≡ Ok w → 60 * s.clock + 44 ≤ hi
      → Known (world p q f ws) e t k before old w s now → GoesTo q 14 hi s.clock (here f pc now ws s) (Good p q f e m t k pc2 before old ws w) s
  then_does e o u m x y t k a b w pc pc2 hi before old now ws s h ra rb fr su i hx hy eo b1 n =
      let g = target_of m t in
      let c = computes_do o u g x y t a b w pc i.0 now ws s h ra rb i.1 hx hy eo (takes p q f g (extent e) w (target_suits p q f m t (extent e) su) n.value) in
      let le : t ≤ t = omega arith in
      let n2 = known_with (world p q f ws) e t k before old w s now c.now2 (c.keeps (calls e) t k old le n.keeps) n in
      let l = follows p q f e m t k i.0 pc2 (60 * s.clock + 22) before old c.now2 ws w s fr i.2 (omega arith) n2 in
      goes q 14 (Good p q f e m t k pc2 before old ws w) hi s.clock (c.j + l.j) (c.c + l.c) (here f pc now ws s) l.u s
      (reaches_on q (here f pc now ws s) (here f i.0 (put_scratch g (word_for w) c.now2) ws (put_state q f g (word_for w) s)) c.j c.c l.j l.c (running l.u)
      c.reaches l.reaches)
      (omega (arith, l.within, c.small, b1)) (omega arith) l.good

  -- ---- comparisons that jump

  if_choose : (b : Bool) (x y : ℕ) → (if b then x else y) ≡ choose b x y
  if_choose true x y = refl
  if_choose false x y = refl

  jumps : (e : Expression) (c : Comparison) (r : Reading) (sense : Bool) (to : ℕ) (x y : Operand) (t k a b : ℕ) (z : Bool) (w : ℤ) (pc pc2 hi : ℕ)
      (before : machine.State) (old now : Scratch) (ws : List Call) (s : machine.State)
      → One (function_at q f).code (instruction.Branch c r x y to) pc pc2 → Holds q f x a now s → Holds q f y b now s → holds c r a b ≡ meets sense z
      → of_truth z ≡ w → 60 * s.clock + 44 ≤ hi
      → Known (world p q f ws) e t k before old w s now
      → GoesTo q 14 hi s.clock (here f pc now ws s) (Good p q f e (If sense to) t k pc2 before old ws w) s
  jumps e c r sense to x y t k a b z w pc pc2 hi before old now ws s i hx hy h1 h2 b1 n =
      let there : truth w ≡ z = ap truth (sym h2) ∙ truth_of z in
      goes q 14 (Good p q f e (If sense to) t k pc2 before old ws w) hi s.clock 1 8 (here f pc now ws s) (here f (if meets sense z then to else pc2) now ws s) s
      (does_branch q f c r x y to a b (meets sense z) pc pc2 now ws s i hx hy h1) (omega (arith, b1)) (omega arith)
      (record {
        now = now;
        at = ap (λ n. here f n now ws s) (if_choose (meets sense z) to pc2) ∙ ap (λ b. here f (choose (meets sense b) to pc2) now ws s) (sym there);
        has = tt;
        known = n;
      })

  -- the number of a word is known from it
  pub equal_words : (u : IntType) (a b : ℤ) → is_wide u ≡ true → Ranged a → Ranged b
      → (word_for a == word_for b) ≡ (int_le (converted u a) (converted u b) && int_le (converted u b) (converted u a))
  equal_words u a b h ra rb = bool_cases (word_for a == word_for b)
      (λ e. e ∙ sym (both_true e)) (λ e. e ∙ sym (one_false e))
    where
      number_same : word_for a ≡ word_for b → converted u a ≡ converted u b
      number_same e = sym (number_again u a h ra) ∙ (ap (number_of (type_of (reading_of u))) e ∙ number_again u b h rb)

      word_same : converted u a ≡ converted u b → word_for a ≡ word_for b
      word_same e = sym (wide_word u a h) ∙ (ap word_for e ∙ wide_word u b h)

      reads_same : (m n : ℕ) → (m == n) ≡ true → m ≡ n
      reads_same m n e = grind (arith, nat_tests)

      itself : (x y : ℤ) → x ≡ y → (int_le x y && int_le y x) ≡ true
      itself x y e = grind (arith, nat_tests, ints, e)

      both_true : (word_for a == word_for b) ≡ true → (int_le (converted u a) (converted u b) && int_le (converted u b) (converted u a)) ≡ true
      both_true e = itself (converted u a) (converted u b) (number_same (reads_same (word_for a) (word_for b) e))

      meet : (x y : ℤ) → (int_le x y && int_le y x) ≡ true → x ≡ y
      meet x y e = grind (arith, nat_tests, ints, e)

      clash : (m n : ℕ) → (m == n) ≡ false → m ≡ n → ⊥
      clash m n e g = grind (arith, nat_tests)

      one_false : (word_for a == word_for b) ≡ false → (int_le (converted u a) (converted u b) && int_le (converted u b) (converted u a)) ≡ false
      one_false e = bool_cases (int_le (converted u a) (converted u b) && int_le (converted u b) (converted u a))
          (λ g. absurd (clash (word_for a) (word_for b) e (word_same (meet (converted u a) (converted u b) g)))) (λ g. g)

  unequal : (x y : ℤ) → (int_lt x y || int_lt y x) ≡ not (int_le x y && int_le y x)
  unequal x y = grind (arith, nat_tests, ints)

  not_not : (b : Bool) → not (not b) ≡ b
  not_not true = refl
  not_not false = refl

  less_words : (u : IntType) (a b : ℤ) → is_wide u ≡ true → Ranged a → Ranged b
      → int_lt (number_of (type_of (reading_of u)) (word_for a)) (number_of (type_of (reading_of u)) (word_for b)) ≡ int_lt (converted u a) (converted u b)
  less_words u a b h ra rb =
      ap (λ z. int_lt z (number_of (type_of (reading_of u)) (word_for b))) (number_again u a h ra) ∙ ap (int_lt (converted u a)) (number_again u b h rb)

  pub compares_do : (e : Expression) (o : BinOp) (u : IntType) (sense : Bool) (to : ℕ) (x y : Operand) (t k : ℕ) (a b w : ℤ) (pc pc2 hi : ℕ)
      (before : machine.State) (old now : Scratch) (ws : List Call) (s : machine.State)
      → is_wide u ≡ true → Ranged a → Ranged b → Compares (function_at q f).code o (reading_of u) sense to x y t pc pc2
      → Holds q f x (word_for a) now s → Holds q f y (word_for b) now s → operated o u a b ≡ Ok w → 60 * s.clock + 44 ≤ hi
      → Known (world p q f ws) e t k before old w s now
      → GoesTo q 14 hi s.clock (here f pc now ws s) (Good p q f e (If sense to) t k pc2 before old ws w) s
  compares_do e op.Less u true to x y t k a b w pc pc2 hi before old now ws s h ra rb i hx hy eo b1 n =
      jumps e comparison.Less (reading_of u) true to x y t k (word_for a) (word_for b) (int_lt (converted u a) (converted u b)) w pc pc2 hi before old now ws s
      i hx hy
      (less_words u a b h ra rb) (ok_is (of_truth (int_lt (converted u a) (converted u b))) w eo) b1 n
  compares_do e op.Less u false to x y t k a b w pc pc2 hi before old now ws s h ra rb i hx hy eo b1 n =
      jumps e comparison.GreaterEqual (reading_of u) false to x y t k (word_for a) (word_for b) (int_lt (converted u a) (converted u b)) w pc pc2 hi before old
      now ws s i hx hy
      (ap not (less_words u a b h ra rb)) (ok_is (of_truth (int_lt (converted u a) (converted u b))) w eo) b1 n
  compares_do e op.Greater u true to x y t k a b w pc pc2 hi before old now ws s h ra rb i hx hy eo b1 n =
      jumps e comparison.Less (reading_of u) true to y x t k (word_for b) (word_for a) (int_lt (converted u b) (converted u a)) w pc pc2 hi before old now ws s
      i hy hx
      (less_words u b a h rb ra) (ok_is (of_truth (int_lt (converted u b) (converted u a))) w eo) b1 n
  compares_do e op.Greater u false to x y t k a b w pc pc2 hi before old now ws s h ra rb i hx hy eo b1 n =
      jumps e comparison.GreaterEqual (reading_of u) false to y x t k (word_for b) (word_for a) (int_lt (converted u b) (converted u a)) w pc pc2 hi before old
      now ws s i hy hx
      (ap not (less_words u b a h rb ra)) (ok_is (of_truth (int_lt (converted u b) (converted u a))) w eo) b1 n
  compares_do e op.LessEqual u true to x y t k a b w pc pc2 hi before old now ws s h ra rb i hx hy eo b1 n =
      jumps e comparison.GreaterEqual (reading_of u) true to y x t k (word_for b) (word_for a) (int_le (converted u a) (converted u b)) w pc pc2 hi before old
      now ws s i hy hx
      (ap not (less_words u b a h rb ra) ∙ sym (not_less (converted u a) (converted u b))) (ok_is (of_truth (int_le (converted u a) (converted u b))) w eo) b1 n
  compares_do e op.LessEqual u false to x y t k a b w pc pc2 hi before old now ws s h ra rb i hx hy eo b1 n =
      jumps e comparison.Less (reading_of u) false to y x t k (word_for b) (word_for a) (int_le (converted u a) (converted u b)) w pc pc2 hi before old now ws s
      i hy hx
      (less_words u b a h rb ra ∙ (sym (not_not (int_lt (converted u b) (converted u a))) ∙ ap not (sym (not_less (converted u a) (converted u b)))))
      (ok_is (of_truth (int_le (converted u a) (converted u b))) w eo) b1 n
  compares_do e op.GreaterEqual u true to x y t k a b w pc pc2 hi before old now ws s h ra rb i hx hy eo b1 n =
      jumps e comparison.GreaterEqual (reading_of u) true to x y t k (word_for a) (word_for b) (int_le (converted u b) (converted u a)) w pc pc2 hi before old
      now ws s i hx hy
      (ap not (less_words u a b h ra rb) ∙ sym (not_less (converted u b) (converted u a))) (ok_is (of_truth (int_le (converted u b) (converted u a))) w eo) b1 n
  compares_do e op.GreaterEqual u false to x y t k a b w pc pc2 hi before old now ws s h ra rb i hx hy eo b1 n =
      jumps e comparison.Less (reading_of u) false to x y t k (word_for a) (word_for b) (int_le (converted u b) (converted u a)) w pc pc2 hi before old now ws s
      i hx hy
      (less_words u a b h ra rb ∙ (sym (not_not (int_lt (converted u a) (converted u b))) ∙ ap not (sym (not_less (converted u b) (converted u a)))))
      (ok_is (of_truth (int_le (converted u b) (converted u a))) w eo) b1 n
  compares_do e op.Equal u true to x y t k a b w pc pc2 hi before old now ws s h ra rb i hx hy eo b1 n =
      jumps e comparison.Equal (reading_of u) true to x y t k (word_for a) (word_for b)
      (int_le (converted u a) (converted u b) && int_le (converted u b) (converted u a)) w pc pc2 hi before old now ws s i hx hy
      (equal_words u a b h ra rb) (ok_is (of_truth (int_le (converted u a) (converted u b) && int_le (converted u b) (converted u a))) w eo) b1 n
  compares_do e op.Equal u false to x y t k a b w pc pc2 hi before old now ws s h ra rb i hx hy eo b1 n =
      jumps e comparison.NotEqual (reading_of u) false to x y t k (word_for a) (word_for b)
      (int_le (converted u a) (converted u b) && int_le (converted u b) (converted u a)) w pc pc2 hi before old now ws s i hx hy
      (ap not (equal_words u a b h ra rb)) (ok_is (of_truth (int_le (converted u a) (converted u b) && int_le (converted u b) (converted u a))) w eo) b1 n
  compares_do e op.NotEqual u true to x y t k a b w pc pc2 hi before old now ws s h ra rb i hx hy eo b1 n =
      jumps e comparison.NotEqual (reading_of u) true to x y t k (word_for a) (word_for b)
      (int_lt (converted u a) (converted u b) || int_lt (converted u b) (converted u a)) w pc pc2 hi before old now ws s i hx hy
      (ap not (equal_words u a b h ra rb) ∙ sym (unequal (converted u a) (converted u b)))
      (ok_is (of_truth (int_lt (converted u a) (converted u b) || int_lt (converted u b) (converted u a))) w eo) b1 n
  compares_do e op.NotEqual u false to x y t k a b w pc pc2 hi before old now ws s h ra rb i hx hy eo b1 n =
      jumps e comparison.Equal (reading_of u) false to x y t k (word_for a) (word_for b)
      (int_lt (converted u a) (converted u b) || int_lt (converted u b) (converted u a)) w pc pc2 hi before old now ws s i hx hy
      (equal_words u a b h ra rb ∙ (sym (not_not (int_le (converted u a) (converted u b) && int_le (converted u b) (converted u a)))
      ∙ ap not (sym (unequal (converted u a) (converted u b)))))
      (ok_is (of_truth (int_lt (converted u a) (converted u b) || int_lt (converted u b) (converted u a))) w eo) b1 n
  compares_do e op.Mul u sense to x y t k a b w pc pc2 hi before old now ws s h ra rb i hx hy eo b1 n =
      then_does e op.Mul u (If sense to) x y t k a b w pc pc2 hi before old now ws s h ra rb tt tt i hx hy eo b1 n
  compares_do e op.Div u sense to x y t k a b w pc pc2 hi before old now ws s h ra rb i hx hy eo b1 n =
      then_does e op.Div u (If sense to) x y t k a b w pc pc2 hi before old now ws s h ra rb tt tt i hx hy eo b1 n
  compares_do e op.Rem u sense to x y t k a b w pc pc2 hi before old now ws s h ra rb i hx hy eo b1 n =
      then_does e op.Rem u (If sense to) x y t k a b w pc pc2 hi before old now ws s h ra rb tt tt i hx hy eo b1 n
  compares_do e op.Add u sense to x y t k a b w pc pc2 hi before old now ws s h ra rb i hx hy eo b1 n =
      then_does e op.Add u (If sense to) x y t k a b w pc pc2 hi before old now ws s h ra rb tt tt i hx hy eo b1 n
  compares_do e op.Sub u sense to x y t k a b w pc pc2 hi before old now ws s h ra rb i hx hy eo b1 n =
      then_does e op.Sub u (If sense to) x y t k a b w pc pc2 hi before old now ws s h ra rb tt tt i hx hy eo b1 n
  compares_do e op.Shl u sense to x y t k a b w pc pc2 hi before old now ws s h ra rb i hx hy eo b1 n =
      then_does e op.Shl u (If sense to) x y t k a b w pc pc2 hi before old now ws s h ra rb tt tt i hx hy eo b1 n
  compares_do e op.Shr u sense to x y t k a b w pc pc2 hi before old now ws s h ra rb i hx hy eo b1 n =
      then_does e op.Shr u (If sense to) x y t k a b w pc pc2 hi before old now ws s h ra rb tt tt i hx hy eo b1 n
  compares_do e op.BitAnd u sense to x y t k a b w pc pc2 hi before old now ws s h ra rb i hx hy eo b1 n =
      then_does e op.BitAnd u (If sense to) x y t k a b w pc pc2 hi before old now ws s h ra rb tt tt i hx hy eo b1 n
  compares_do e op.BitXor u sense to x y t k a b w pc pc2 hi before old now ws s h ra rb i hx hy eo b1 n =
      then_does e op.BitXor u (If sense to) x y t k a b w pc pc2 hi before old now ws s h ra rb tt tt i hx hy eo b1 n
  compares_do e op.BitOr u sense to x y t k a b w pc pc2 hi before old now ws s h ra rb i hx hy eo b1 n =
      then_does e op.BitOr u (If sense to) x y t k a b w pc pc2 hi before old now ws s h ra rb tt tt i hx hy eo b1 n

  pub operates_do : (e : Expression) (o : BinOp) (u : IntType) (m : Mode) (x y : Operand) (t k : ℕ) (a b w : ℤ) (pc pc2 hi : ℕ) (before : machine.State)
      (old now : Scratch) (ws : List Call) (s : machine.State)
      → is_wide u ≡ true → Ranged a → Ranged b → IsFreeFor m t k → Suits p q f m (extent e) → Operates (function_at q f).code o (reading_of u) m x y t pc pc2
      → Holds q f x (word_for a) now s → Holds q f y (word_for b) now s → operated o u a b ≡ Ok w → 60 * s.clock + 44 ≤ hi
      → Known (world p q f ws) e t k before old w s now → GoesTo q 14 hi s.clock (here f pc now ws s) (Good p q f e m t k pc2 before old ws w) s
  operates_do e o u Nowhere x y t k a b w pc pc2 hi before old now ws s h ra rb fr su i hx hy eo b1 n =
      then_does e o u Nowhere x y t k a b w pc pc2 hi before old now ws s h ra rb fr su i hx hy eo b1 n
  operates_do e o u (To g) x y t k a b w pc pc2 hi before old now ws s h ra rb fr su i hx hy eo b1 n =
      then_does e o u (To g) x y t k a b w pc pc2 hi before old now ws s h ra rb fr su i hx hy eo b1 n
  operates_do e o u (If sense to) x y t k a b w pc pc2 hi before old now ws s h ra rb fr su i hx hy eo b1 n =
      compares_do e o u sense to x y t k a b w pc pc2 hi before old now ws s h ra rb i hx hy eo b1 n
