-- While no byte may be both written and executed, the text stays.
use Rattle.std.proofs.Common.{◌≡◌, ℕ, zero, suc, ◌+◌, ◌*◌, ◌/◌, ◌%◌, ◌^◌, List, [], ◌∷◌, Option, Some, None, Bool, true, false, ◌&&◌, refl, sym, ap, ◌∙◌, arith, eqb}
use Rattle.std.specs.Prelude.{if◌then◌else◌}
use Rattle.std.proofs.lemmas.Bool.Decides.{nat_tests}
use Rattle.rv32.specs.declared.instr.Instr.{Instr}
use Rattle.rv32.specs.declared.instr.Instr.TheVariants.{Lui, Auipc, Jal, Jalr, Branch, Load, Store, Immediate, Shift, Op, Fence, Ecall, Ebreak}
use Rattle.rv32.specs.declared.instr.LoadKind.{LoadKind}
use Rattle.rv32.specs.declared.instr.LoadKind.TheVariants as load_kind
use Rattle.rv32.specs.declared.instr.StoreKind.{StoreKind}
use Rattle.rv32.specs.declared.instr.StoreKind.TheVariants as store_kind
use Rattle.rv32.specs.Words.{decode_of, sign_extended}
use Rattle.rv32.specs.Arithmetic.{compare_of}
use Rattle.rv32.specs.Space.{both, all_four, half_at, word_at, half_put, word_put, byte_put}
use Rattle.csem_events.specs.Events.{Event, Put}
use Rattle.select_exec.specs.Light.{Fixed, Light, Go, Done, Fell, reg, with_reg, with_word, with_half, with_byte, sum32, act, load, store, goes, call, gets, light_step, light_run}
use Rattle.select_exec.specs.Whole.{Permits, Keeps, fetched, fixed, whole_step, whole_run}

pub bool_cases : {A : Type 0} (b : Bool) → (b ≡ true → A) → (b ≡ false → A) → A
bool_cases true on_true on_false = on_true refl
bool_cases false on_true on_false = on_false refl

if_keeps : (P : Permits) (b0 : ℕ → ℕ) (t : Bool) (l m : Light) → (t ≡ true → Keeps P b0 l) → Keeps P b0 m → Keeps P b0 (if t then l else m)
if_keeps P b0 true l m hl hm = hl refl
if_keeps P b0 false l m hl hm = hm

pub and_left : (a b : Bool) → (a && b) ≡ true → a ≡ true
and_left true b h = refl
and_left false b h = cc

pub and_right : (a b : Bool) → (a && b) ≡ true → b ≡ true
and_right true b h = h
and_right false b h = cc

-- a byte that may not be written is not the one that was
byte_kept : (w : ℕ → Bool) (a k v x : ℕ) → w a ≡ true → w k ≡ false → byte_put a v k x ≡ x
byte_kept w a k v x p q =
    bool_cases (eqb k a)
    (λ e. let same : k ≡ a = grind (arith, nat_tests) in let t : w k ≡ w a = ap w same in cc)
    (λ e. rw e refl)

half_kept : (w : ℕ → Bool) (a k v x : ℕ) → both w a ≡ true → w k ≡ false → half_put a v k x ≡ x
half_kept w a k v x p q = byte_kept w a k _ _ (and_left _ _ p) q ∙ byte_kept w (a + 1) k _ _ (and_right _ _ p) q

word_kept : (w : ℕ → Bool) (a k v x : ℕ) → all_four w a ≡ true → w k ≡ false → word_put a v k x ≡ x
word_kept w a k v x p q =
    let p3 = and_right _ _ p in
    let r = and_left _ _ p in
    let p2 = and_right _ _ r in
    let r2 = and_left _ _ r in
    let p1 = and_right _ _ r2 in
    let p0 = and_left _ _ r2 in
    byte_kept w a k _ _ p0 q ∙ (byte_kept w (a + 1) k _ _ p1 q ∙ (byte_kept w (a + 2) k _ _ p2 q ∙ byte_kept w (a + 3) k _ _ p3 q))

module _ (P : Permits) (b0 : ℕ → ℕ) (F : Fixed) (writes : F.can_write ≡ P.can_write) (r : ℕ → ℕ) (pc : ℕ) (b : ℕ → ℕ) (i : List ℕ) (h : List Event) (k : Keeps P b0 (Go r pc b i h)) where
  go : (r2 : ℕ → ℕ) (pc2 : ℕ) → Keeps P b0 (Go r2 pc2 b i h)
  go r2 pc2 = k

  load_keeps : (o : LoadKind) (rd a : ℕ) → Keeps P b0 (load F o rd a r pc b i h)
  load_keeps load_kind.Word rd a = if_keeps P b0 (eqb (a % 4) 0 && all_four F.can_read a) (Go (with_reg r rd (word_at b a)) (pc + 4) b i h) (Fell h) (λ e. k) tt
  load_keeps load_kind.ByteUnsigned rd a = if_keeps P b0 (F.can_read a) (Go (with_reg r rd (b a)) (pc + 4) b i h) (Fell h) (λ e. k) tt
  load_keeps load_kind.Byte rd a = if_keeps P b0 (F.can_read a) (Go (with_reg r rd (sign_extended 7 (b a))) (pc + 4) b i h) (Fell h) (λ e. k) tt
  load_keeps load_kind.Half rd a = if_keeps P b0 (eqb (a % 2) 0 && both F.can_read a) (Go (with_reg r rd (sign_extended 15 (half_at b a))) (pc + 4) b i h) (Fell h) (λ e. k) tt
  load_keeps load_kind.HalfUnsigned rd a = if_keeps P b0 (eqb (a % 2) 0 && both F.can_read a) (Go (with_reg r rd (half_at b a)) (pc + 4) b i h) (Fell h) (λ e. k) tt

  may : (a : ℕ) → P.can_write a ≡ false → F.can_write a ≡ false
  may a e = ap (λ f. f a) writes ∙ e

  store_keeps : (o : StoreKind) (a v : ℕ) → Keeps P b0 (store F o a v r pc b i h)
  store_keeps store_kind.Word a v = if_keeps P b0 (eqb (a % 4) 0 && all_four F.can_write a) (Go r (pc + 4) (with_word b a v) i h) (Fell h) (λ e x q. word_kept F.can_write a x v (b x) (and_right (eqb (a % 4) 0) (all_four F.can_write a) e) (may x q) ∙ k x q) tt
  store_keeps store_kind.Byte a v = if_keeps P b0 (F.can_write a) (Go r (pc + 4) (with_byte b a (v % 2 ^ 8)) i h) (Fell h) (λ e x q. byte_kept F.can_write a x _ (b x) e (may x q) ∙ k x q) tt
  store_keeps store_kind.Half a v = if_keeps P b0 (eqb (a % 2) 0 && both F.can_write a) (Go r (pc + 4) (with_half b a v) i h) (Fell h) (λ e x q. half_kept F.can_write a x v (b x) (and_right (eqb (a % 2) 0) (both F.can_write a) e) (may x q) ∙ k x q) tt

  gets_keeps : (xs : List ℕ) (a : ℕ) → P.can_write a ≡ true → Keeps P b0 (gets r pc b xs a h)
  gets_keeps [] a e = k
  gets_keeps (c ∷ rest) a e = λ x q. byte_kept P.can_write a x _ (b x) e q ∙ k x q

  call_keeps : (n : ℕ) → Keeps P b0 (call F n r pc b i h)
  call_keeps n =
      let put : Light = Go (with_reg r 10 1) (pc + 4) b i (Put (b (reg r 11)) ∷ h) in
      let t1 = F.can_read (reg r 11) in
      let t2 = eqb n 64 && (eqb (reg r 10) 1 && eqb (reg r 12) 1) in
      let t3 = F.can_write (reg r 11) in
      let t4 = eqb n 63 && (eqb (reg r 10) 0 && eqb (reg r 12) 1) in
      if_keeps P b0 (eqb n 93) (Done (reg r 10 % 2 ^ 8) h) (if t4 then (if t3 then gets r pc b i (reg r 11) h else Fell h) else if t2 then (if t1 then put else Fell h) else Fell h) (λ e. tt)
      (if_keeps P b0 t4 (if t3 then gets r pc b i (reg r 11) h else Fell h) (if t2 then (if t1 then put else Fell h) else Fell h) (λ e. if_keeps P b0 t3 (gets r pc b i (reg r 11) h) (Fell h) (λ e. gets_keeps i (reg r 11) (ap (λ f. f (reg r 11)) (sym writes) ∙ e)) tt)
      (if_keeps P b0 t2 (if t1 then put else Fell h) (Fell h) (λ e. if_keeps P b0 t1 put (Fell h) (λ e. k) tt) tt))

  goes_keeps : (to : ℕ) (r2 : ℕ → ℕ) → Keeps P b0 (goes to r2 b i h)
  goes_keeps to r2 = if_keeps P b0 (eqb (to % 4) 0) (Go r2 to b i h) (Fell h) (λ e. k) tt

  act_keeps : (o : Option Instr) → Keeps P b0 (act F o r pc b i h)
  act_keeps None = tt
  act_keeps (Some (Lui rd v)) = k
  act_keeps (Some (Auipc rd v)) = k
  act_keeps (Some (Jal rd v)) = goes_keeps (sum32 pc v) (with_reg r rd (pc + 4))
  act_keeps (Some (Jalr rd base v)) = goes_keeps (sum32 (reg r base) v / 2 * 2) (with_reg r rd (pc + 4))
  act_keeps (Some (Branch t l x v)) = goes_keeps (if compare_of t (reg r l) (reg r x) then sum32 pc v else pc + 4) r
  act_keeps (Some (Load o rd base v)) = load_keeps o rd (sum32 (reg r base) v)
  act_keeps (Some (Store o source base v)) = store_keeps o (sum32 (reg r base) v) (reg r source)
  act_keeps (Some (Immediate o rd l v)) = k
  act_keeps (Some (Op o rd l x)) = k
  act_keeps (Some Ecall) = call_keeps (reg r 17)
  act_keeps (Some (Shift o rd l x)) = k
  act_keeps (Some (Fence rd s v)) = tt
  act_keeps (Some Ebreak) = tt

-- the text reads the same
fetch_kept : (P : Permits) (b b0 : ℕ → ℕ) (pc : ℕ) → ((a : ℕ) → P.can_execute a ≡ true → P.can_write a ≡ false) → ((a : ℕ) → P.can_write a ≡ false → b a ≡ b0 a) → fetched P b pc ≡ fetched P b0 pc
fetch_kept P b b0 pc apart same =
    bool_cases (eqb (pc % 4) 0 && all_four P.can_execute pc)
    (λ e.
    let p = and_right _ _ e in
    let p3 = and_right _ _ p in
    let r = and_left _ _ p in
    let p2 = and_right _ _ r in
    let r2 = and_left _ _ r in
    let p1 = and_right _ _ r2 in
    let p0 = and_left _ _ r2 in
    let w : word_at b pc ≡ word_at b0 pc = rw (same pc (apart _ p0), same (pc + 1) (apart _ p1), same (pc + 2) (apart _ p2), same (pc + 3) (apart _ p3)) refl in
    ap (λ x. if eqb (pc % 4) 0 && all_four P.can_execute pc then decode_of x else None) w)
    (λ e. rw e refl)

-- the memory's own text, and the fixed one
act_same : (P : Permits) (b b0 : ℕ → ℕ) (o : Option Instr) (r : ℕ → ℕ) (pc : ℕ) (i : List ℕ) (h : List Event) → act (fixed P b) o r pc b i h ≡ act (fixed P b0) o r pc b i h
act_same P b b0 None r pc i h = refl
act_same P b b0 (Some (Lui rd v)) r pc i h = refl
act_same P b b0 (Some (Auipc rd v)) r pc i h = refl
act_same P b b0 (Some (Jal rd v)) r pc i h = refl
act_same P b b0 (Some (Jalr rd base v)) r pc i h = refl
act_same P b b0 (Some (Branch t l x v)) r pc i h = refl
act_same P b b0 (Some (Load load_kind.Word rd base v)) r pc i h = refl
act_same P b b0 (Some (Load load_kind.ByteUnsigned rd base v)) r pc i h = refl
act_same P b b0 (Some (Load load_kind.Byte rd base v)) r pc i h = refl
act_same P b b0 (Some (Load load_kind.Half rd base v)) r pc i h = refl
act_same P b b0 (Some (Load load_kind.HalfUnsigned rd base v)) r pc i h = refl
act_same P b b0 (Some (Store store_kind.Word source base v)) r pc i h = refl
act_same P b b0 (Some (Store store_kind.Byte source base v)) r pc i h = refl
act_same P b b0 (Some (Store store_kind.Half source base v)) r pc i h = refl
act_same P b b0 (Some (Immediate o rd l v)) r pc i h = refl
act_same P b b0 (Some (Op o rd l x)) r pc i h = refl
act_same P b b0 (Some Ecall) r pc i h = refl
act_same P b b0 (Some (Shift o rd l x)) r pc i h = refl
act_same P b b0 (Some (Fence rd s v)) r pc i h = refl
act_same P b b0 (Some Ebreak) r pc i h = refl

module _ (P : Permits) (b0 : ℕ → ℕ) (apart : (a : ℕ) → P.can_execute a ≡ true → P.can_write a ≡ false) where
  step_same : (m : Light) → Keeps P b0 m → whole_step P m ≡ light_step (fixed P b0) m
  step_same (Go r pc b i h) k = ap (λ o. act (fixed P b) o r pc b i h) (fetch_kept P b b0 pc apart k) ∙ act_same P b b0 (fetched P b0 pc) r pc i h
  step_same (Done s h) k = refl
  step_same (Fell h) k = refl

  step_keeps : (m : Light) → Keeps P b0 m → Keeps P b0 (light_step (fixed P b0) m)
  step_keeps (Go r pc b i h) k = act_keeps P b0 (fixed P b0) refl r pc b i h k (fetched P b0 pc)
  step_keeps (Done s h) k = tt
  step_keeps (Fell h) k = tt

  pub run_same : (k : ℕ) (m : Light) → Keeps P b0 m → whole_run P k m ≡ light_run (fixed P b0) k m
  run_same zero m q = refl
  run_same (suc k) m q = ap (whole_run P k) (step_same m q) ∙ run_same k (light_step (fixed P b0) m) (step_keeps m q)
