-- Running the machine: a lemma for each instruction. Each takes the run from the next instruction on.
use Rattle.std.proofs.Common.{◌≡◌, ℕ, zero, suc, ◌+◌, ◌-◌, ◌*◌, ◌/◌, ◌%◌, ◌^◌, ◌≤◌, List, ◌∷◌, Some, Bool, true, refl, sym, ap, ◌∙◌, subst, arith, ⊎_elim}
use Rattle.std.proofs.lemmas.Bool.{cases_lt}
use Rattle.std.specs.Prelude.{if◌then◌else◌}
use Rattle.rv32.specs.declared.instr.Instr.{Instr}
use Rattle.rv32.specs.declared.instr.Instr.TheVariants.{Lui, Auipc, Jal, Jalr, Branch, Load, Store, Immediate, Shift, Op, Ecall}
use Rattle.rv32.specs.declared.instr.Test.{Test}
use Rattle.rv32.specs.declared.instr.ImmediateOp.{ImmediateOp}
use Rattle.rv32.specs.declared.instr.RegisterOp.{RegisterOp}
use Rattle.rv32.specs.declared.instr.ShiftOp.{ShiftOp}
use Rattle.rv32.specs.declared.instr.LoadKind.TheVariants as load_kind
use Rattle.rv32.specs.declared.instr.StoreKind.TheVariants as store_kind
use Rattle.rv32.specs.Words.{sign_extended}
use Rattle.rv32.specs.Arithmetic.{compare_of, operate_of, operate_immediate_of, shift_by}
use Rattle.rv32.specs.Space.{both, all_four, half_at, word_at}
use Rattle.csem_events.specs.Events.{Event, Put}
use Rattle.select_exec.specs.Light.{Fixed, Light, Go, Done, reg, with_reg, with_word, with_half, with_byte, sum32, act, light_step, light_run, gets, Comes}

pub comes_now : (F : Fixed) (I : Light → Type 0) (n : ℕ) (m : Light) (Q : Light → Type 0) → I m → Q m → Comes F I 0 n m Q
comes_now F I n m Q p q = record {
  j = 0;
  some = omega arith;
  within = omega arith;
  kept = λ k le. let z : 0 ≡ k = omega arith in subst (λ x. I (light_run F x m)) z p;
  good = q;
}

kept_step : (F : Fixed) (I : Light → Type 0) (m m' : Light) (j : ℕ) → light_step F m ≡ m' → I m → ((k : ℕ) → k ≤ j → I (light_run F k m')) → (k : ℕ) → k ≤ suc j → I (light_run F k m)
kept_step F I m m' j e p all zero le = p
kept_step F I m m' j e p all (suc k) le = subst (λ x. I (light_run F k x)) (sym e) (all k (omega arith))

pub comes_step : {a : ℕ} (F : Fixed) (I : Light → Type 0) (n : ℕ) (m m' : Light) (Q : Light → Type 0) → I m → light_step F m ≡ m' → Comes F I a n m' Q → Comes F I 1 (suc n) m Q
comes_step F I n m m' Q p e c =
    let R : Light → Type 0 = λ x. Q (light_run F c.j x) in
    record { j = suc c.j; some = omega arith; within = omega (arith, c.within); kept = kept_step F I m m' c.j e p c.kept; good = subst R (sym e) c.good }

-- a greater bound
pub comes_by : {a : ℕ} (F : Fixed) (I : Light → Type 0) (n n' : ℕ) (m : Light) (Q : Light → Type 0) → n ≤ n' → Comes F I a n m Q → Comes F I a n' m Q
comes_by F I n n' m Q le c = record { j = c.j; some = c.some; within = omega (arith, le, c.within); kept = c.kept; good = c.good }

-- no least count
pub comes_some : {a : ℕ} (F : Fixed) (I : Light → Type 0) (n : ℕ) (m : Light) (Q : Light → Type 0) → Comes F I a n m Q → Comes F I 0 n m Q
comes_some F I n m Q c = record { j = c.j; some = omega arith; within = c.within; kept = c.kept; good = c.good }

pub run_plus : (F : Fixed) (a b : ℕ) (m : Light) → light_run F (a + b) m ≡ light_run F b (light_run F a m)
run_plus F zero b m = let e : 0 + b ≡ b = omega arith in ap (λ n. light_run F n m) e
run_plus F (suc a) b m =
    let e : suc a + b ≡ suc (a + b) = omega arith in
    ap (λ n. light_run F n m) e ∙ run_plus F a b (light_step F m)

kept_then : (F : Fixed) (I : Light → Type 0) (m : Light) (i j : ℕ) → ((k : ℕ) → k ≤ i → I (light_run F k m)) → ((k : ℕ) → k ≤ j → I (light_run F k (light_run F i m))) → (k : ℕ) → k ≤ i + j → I (light_run F k m)
kept_then F I m i j first next k le =
    ⊎_elim
    (λ lt. first k (omega (arith, lt)))
    (λ ge.
    let e : i + (k - i) ≡ k = omega (arith, ge) in
    subst (λ x. I (light_run F x m)) e (subst I (sym (run_plus F i (k - i) m)) (next (k - i) (omega (arith, le, ge)))))
    (cases_lt k i)

pub comes_then : {x y : ℕ} (F : Fixed) (I : Light → Type 0) (a b : ℕ) (m : Light) (Q R : Light → Type 0) → Comes F I x a m Q → ((m' : Light) → Q m' → Comes F I y b m' R) → Comes F I (x + y) (a + b) m R
comes_then F I a b m Q R c next =
    let d = next (light_run F c.j m) c.good in
    record {
      j = c.j + d.j;
      some = omega (arith, c.some, d.some);
      within = omega (arith, c.within, d.within);
      kept = kept_then F I m c.j d.j c.kept d.kept;
      good = subst R (sym (run_plus F c.j d.j m)) d.good;
    }

module _ (F : Fixed) (I : Light → Type 0) (Q : Light → Type 0) (n : ℕ) (r : ℕ → ℕ) (pc : ℕ) (b : ℕ → ℕ) (i : List ℕ) (h : List Event) (p : I (Go r pc b i h)) where
  at_text : (x : Instr) → F.text pc ≡ Some x → light_step F (Go r pc b i h) ≡ act F (Some x) r pc b i h
  at_text x e = ap (λ o. act F o r pc b i h) e

  pub on_lui : {a0 : ℕ} → (rd v : ℕ) → F.text pc ≡ Some (Lui rd v) → Comes F I a0 n (Go (with_reg r rd v) (pc + 4) b i h) Q → Comes F I 1 (suc n) (Go r pc b i h) Q
  on_lui rd v e c = comes_step F I n _ _ Q p (at_text _ e) c

  pub on_auipc : {a0 : ℕ} → (rd v : ℕ) → F.text pc ≡ Some (Auipc rd v) → Comes F I a0 n (Go (with_reg r rd (sum32 pc v)) (pc + 4) b i h) Q → Comes F I 1 (suc n) (Go r pc b i h) Q
  on_auipc rd v e c = comes_step F I n _ _ Q p (at_text _ e) c

  pub on_immediate : {a0 : ℕ} → (o : ImmediateOp) (rd l v w : ℕ) → F.text pc ≡ Some (Immediate o rd l v) → operate_immediate_of o (reg r l) v ≡ w → Comes F I a0 n (Go (with_reg r rd w) (pc + 4) b i h) Q → Comes F I 1 (suc n) (Go r pc b i h) Q
  on_immediate o rd l v w e ew c = comes_step F I n _ _ Q p (at_text _ e ∙ ap (λ x. Go (with_reg r rd x) (pc + 4) b i h) ew) c

  pub on_op : {a0 : ℕ} → (o : RegisterOp) (rd l k : ℕ) → F.text pc ≡ Some (Op o rd l k) → Comes F I a0 n (Go (with_reg r rd (operate_of o (reg r l) (reg r k))) (pc + 4) b i h) Q → Comes F I 1 (suc n) (Go r pc b i h) Q
  on_op o rd l k e c = comes_step F I n _ _ Q p (at_text _ e) c

  pub on_load : {a0 : ℕ} → (rd base v a w : ℕ) → F.text pc ≡ Some (Load load_kind.Word rd base v) → sum32 (reg r base) v ≡ a → a % 4 ≡ 0 → all_four F.can_read a ≡ true → word_at b a ≡ w → Comes F I a0 n (Go (with_reg r rd w) (pc + 4) b i h) Q → Comes F I 1 (suc n) (Go r pc b i h) Q
  on_load rd base v a w e ea al q ew c =
      comes_step F I n _ _ Q p (at_text _ e ∙ rw (ea, al, q, ew) refl) c

  pub on_store : {a0 : ℕ} → (source base v a w : ℕ) → F.text pc ≡ Some (Store store_kind.Word source base v) → sum32 (reg r base) v ≡ a → a % 4 ≡ 0 → all_four F.can_write a ≡ true → reg r source ≡ w → Comes F I a0 n (Go r (pc + 4) (with_word b a w) i h) Q → Comes F I 1 (suc n) (Go r pc b i h) Q
  on_store source base v a w e ea al q ew c =
      comes_step F I n _ _ Q p (at_text _ e ∙ rw (ea, al, q, ew) refl) c

  pub on_jump : {a0 : ℕ} → (rd v to : ℕ) → F.text pc ≡ Some (Jal rd v) → sum32 pc v ≡ to → to % 4 ≡ 0 → Comes F I a0 n (Go (with_reg r rd (pc + 4)) to b i h) Q → Comes F I 1 (suc n) (Go r pc b i h) Q
  on_jump rd v to e et al c = comes_step F I n _ _ Q p (at_text _ e ∙ rw (et, al) refl) c

  pub on_jump_register : {a0 : ℕ} → (rd base v to : ℕ) → F.text pc ≡ Some (Jalr rd base v) → sum32 (reg r base) v ≡ to → to % 4 ≡ 0 → Comes F I a0 n (Go (with_reg r rd (pc + 4)) to b i h) Q → Comes F I 1 (suc n) (Go r pc b i h) Q
  on_jump_register rd base v to e et al c =
      let even : to / 2 * 2 ≡ to = omega arith in
      comes_step F I n _ _ Q p (at_text _ e ∙ rw (et, even, al) refl) c

  pub on_branch : {a0 : ℕ} → (t : Test) (l k v to : ℕ) (x : Bool) → F.text pc ≡ Some (Branch t l k v) → compare_of t (reg r l) (reg r k) ≡ x → (if x then sum32 pc v else pc + 4) ≡ to → to % 4 ≡ 0 → Comes F I a0 n (Go r to b i h) Q → Comes F I 1 (suc n) (Go r pc b i h) Q
  on_branch t l k v to x e ex et al c = comes_step F I n _ _ Q p (at_text _ e ∙ rw (ex, et, al) refl) c

  pub on_exit : {a0 : ℕ} → (status : ℕ) → F.text pc ≡ Some Ecall → reg r 17 ≡ 93 → reg r 10 % 2 ^ 8 ≡ status → Comes F I a0 n (Done status h) Q → Comes F I 1 (suc n) (Go r pc b i h) Q
  on_exit status e e7 e0 c = comes_step F I n _ _ Q p (at_text _ e ∙ rw (e7, e0) refl) c

  pub on_put : {a0 : ℕ} → (a : ℕ) → F.text pc ≡ Some Ecall → reg r 17 ≡ 64 → reg r 10 ≡ 1 → reg r 12 ≡ 1 → reg r 11 ≡ a → F.can_read a ≡ true → Comes F I a0 n (Go (with_reg r 10 1) (pc + 4) b i (Put (b a) ∷ h)) Q → Comes F I 1 (suc n) (Go r pc b i h) Q
  on_put a e e7 e0 e2 e1 q c = comes_step F I n _ _ Q p (at_text _ e ∙ rw (e7, e0, e2, e1, q) refl) c

  pub on_load_byte : {a0 : ℕ} → (rd base v a w : ℕ) → F.text pc ≡ Some (Load load_kind.ByteUnsigned rd base v) → sum32 (reg r base) v ≡ a → F.can_read a ≡ true → b a ≡ w → Comes F I a0 n (Go (with_reg r rd w) (pc + 4) b i h) Q → Comes F I 1 (suc n) (Go r pc b i h) Q
  on_load_byte rd base v a w e ea q ew c = comes_step F I n _ _ Q p (at_text _ e ∙ rw (ea, q, ew) refl) c

  pub on_store_byte : {a0 : ℕ} → (source base v a w : ℕ) → F.text pc ≡ Some (Store store_kind.Byte source base v) → sum32 (reg r base) v ≡ a → F.can_write a ≡ true → reg r source ≡ w → Comes F I a0 n (Go r (pc + 4) (with_byte b a (w % 2 ^ 8)) i h) Q → Comes F I 1 (suc n) (Go r pc b i h) Q
  on_store_byte source base v a w e ea q ew c = comes_step F I n _ _ Q p (at_text _ e ∙ rw (ea, q, ew) refl) c

  pub on_shift : {a0 : ℕ} → (o : ShiftOp) (rd l k : ℕ) → F.text pc ≡ Some (Shift o rd l k) → Comes F I a0 n (Go (with_reg r rd (shift_by o (reg r l) k)) (pc + 4) b i h) Q → Comes F I 1 (suc n) (Go r pc b i h) Q
  on_shift o rd l k e c = comes_step F I n _ _ Q p (at_text _ e) c

  pub on_load_signed_byte : {a0 : ℕ} → (rd base v a w : ℕ) → F.text pc ≡ Some (Load load_kind.Byte rd base v) → sum32 (reg r base) v ≡ a → F.can_read a ≡ true → sign_extended 7 (b a) ≡ w → Comes F I a0 n (Go (with_reg r rd w) (pc + 4) b i h) Q → Comes F I 1 (suc n) (Go r pc b i h) Q
  on_load_signed_byte rd base v a w e ea q ew c = comes_step F I n _ _ Q p (at_text _ e ∙ rw (ea, q, ew) refl) c

  pub on_load_half : {a0 : ℕ} → (rd base v a w : ℕ) → F.text pc ≡ Some (Load load_kind.HalfUnsigned rd base v) → sum32 (reg r base) v ≡ a → a % 2 ≡ 0 → both F.can_read a ≡ true → half_at b a ≡ w → Comes F I a0 n (Go (with_reg r rd w) (pc + 4) b i h) Q → Comes F I 1 (suc n) (Go r pc b i h) Q
  on_load_half rd base v a w e ea al q ew c = comes_step F I n _ _ Q p (at_text _ e ∙ rw (ea, al, q, ew) refl) c

  pub on_load_signed_half : {a0 : ℕ} → (rd base v a w : ℕ) → F.text pc ≡ Some (Load load_kind.Half rd base v) → sum32 (reg r base) v ≡ a → a % 2 ≡ 0 → both F.can_read a ≡ true → sign_extended 15 (half_at b a) ≡ w → Comes F I a0 n (Go (with_reg r rd w) (pc + 4) b i h) Q → Comes F I 1 (suc n) (Go r pc b i h) Q
  on_load_signed_half rd base v a w e ea al q ew c = comes_step F I n _ _ Q p (at_text _ e ∙ rw (ea, al, q, ew) refl) c

  pub on_store_half : {a0 : ℕ} → (source base v a w : ℕ) → F.text pc ≡ Some (Store store_kind.Half source base v) → sum32 (reg r base) v ≡ a → a % 2 ≡ 0 → both F.can_write a ≡ true → reg r source ≡ w → Comes F I a0 n (Go r (pc + 4) (with_half b a w) i h) Q → Comes F I 1 (suc n) (Go r pc b i h) Q
  on_store_half source base v a w e ea al q ew c = comes_step F I n _ _ Q p (at_text _ e ∙ rw (ea, al, q, ew) refl) c

  pub on_get : {a0 : ℕ} → (a : ℕ) → F.text pc ≡ Some Ecall → reg r 17 ≡ 63 → reg r 10 ≡ 0 → reg r 12 ≡ 1 → reg r 11 ≡ a → F.can_write a ≡ true → Comes F I a0 n (gets r pc b i a h) Q → Comes F I 1 (suc n) (Go r pc b i h) Q
  on_get a e e7 e0 e2 e1 q c = comes_step F I n _ _ Q p (at_text _ e ∙ rw (e7, e0, e2, e1, q) refl) c
