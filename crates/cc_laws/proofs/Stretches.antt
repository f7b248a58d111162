-- Stretches of a run of the light machine on which the stack pointer stays, or on which nothing is loaded or stored.
use Rattle.std.proofs.Common.{◌≡◌, ◌⊎◌, inl, inr, ◌≤◌, ◌<◌, ℕ, zero, suc, ◌+◌, ◌*◌, ◌%◌, ◌^◌, ◌&&◌, List, [], ◌∷◌, Bool, true, false, Some, refl, sym, ap, ◌∙◌, subst, arith}
use Rattle.std.specs.Prelude.{◌==◌, if◌then◌else◌}
use Rattle.rv32.specs.declared.instr.Instr.{Instr}
use Rattle.rv32.specs.declared.instr.Instr.TheVariants.{Lui, Auipc, Jal, Jalr, Branch, Load, Store, Immediate, Shift, Op, Fence, Ecall, Ebreak}
use Rattle.rv32.specs.declared.instr.LoadKind.{LoadKind}
use Rattle.rv32.specs.declared.instr.LoadKind.TheVariants as load_kind
use Rattle.rv32.specs.declared.instr.StoreKind.{StoreKind}
use Rattle.rv32.specs.declared.instr.StoreKind.TheVariants as store_kind
use Rattle.rv32.specs.declared.instr.Test.{Test}
use Rattle.rv32.specs.Arithmetic.{compare_of}
use Rattle.rv32.specs.Space.{all_four, both, half_at, word_at}
use Rattle.rv32.specs.Words.{sign_extended}
use Rattle.csem_events.specs.Events.{Event}
use Rattle.select_exec.specs.Light.{Fixed, Light, Go, Done, Fell, reg, with_reg, with_word, with_half, with_byte, sum32, load, store, gets, call, act, light_step, light_run}
use Rattle.select_exec.proofs.Words.{with_other}
use Rattle.cc_laws.proofs.Quiet.{Word, Words, IsOff, IsQuiet, IsBare, ten}

-- ---- a property of a light machine that goes on, and of no other

abbrev pub At : (pc sp : ℕ) → Light → Type 0
At pc sp (Go r at b i h) = (at ≡ pc) × (r 2 ≡ sp)
At pc sp (Done s h) = Unit {0}
At pc sp (Fell h) = Unit {0}

abbrev pub HasSp : (sp : ℕ) → Light → Type 0
HasSp sp (Go r at b i h) = r 2 ≡ sp
HasSp sp (Done s h) = Unit {0}
HasSp sp (Fell h) = Unit {0}

abbrev pub HasPc : (pc : ℕ) → Light → Type 0
HasPc pc (Go r at b i h) = at ≡ pc
HasPc pc (Done s h) = Unit {0}
HasPc pc (Fell h) = Unit {0}

-- it neither loads nor stores; if it is an environment call, that ends the run
abbrev pub IsIdle : (ℕ → ℕ) → Instr → Type 0
IsIdle r (Lui rd v) = Unit {0}
IsIdle r (Auipc rd v) = Unit {0}
IsIdle r (Jal rd v) = Unit {0}
IsIdle r (Jalr rd base v) = Unit {0}
IsIdle r (Branch t l k v) = Unit {0}
IsIdle r (Load kind rd base v) = ⊥
IsIdle r (Store kind k base v) = ⊥
IsIdle r (Immediate o rd l v) = Unit {0}
IsIdle r (Shift o rd l k) = Unit {0}
IsIdle r (Op o rd l k) = Unit {0}
IsIdle r (Fence rd s v) = Unit {0}
IsIdle r Ecall = r 17 ≡ 93
IsIdle r Ebreak = Unit {0}

-- the stack pointer is at most `low`, or the instruction is idle
abbrev pub IsFine : Fixed → (low : ℕ) → Light → Type 0
IsFine F low (Go r pc b i h) = (r 2 ≤ low) ⊎ ((k : Instr) × (F.text pc ≡ Some k) × IsIdle r k)
IsFine F low (Done s h) = Unit {0}
IsFine F low (Fell h) = Unit {0}

pub sp_of : (pc sp : ℕ) (m : Light) → At pc sp m → HasSp sp m
sp_of pc sp (Go r at b i h) q = q.1
sp_of pc sp (Done s h) q = tt
sp_of pc sp (Fell h) q = tt

pub pc_of : (pc sp : ℕ) (m : Light) → At pc sp m → HasPc pc m
pc_of pc sp (Go r at b i h) q = q.0
pc_of pc sp (Done s h) q = tt
pc_of pc sp (Fell h) q = tt

pub fine_low : (F : Fixed) (low sp : ℕ) (m : Light) → sp ≤ low → HasSp sp m → IsFine F low m
fine_low F low sp (Go r at b i h) le q = inl (omega (arith, q, le))
fine_low F low sp (Done s h) le q = tt
fine_low F low sp (Fell h) le q = tt

-- the word at pc is idle for any registers
pub fine_idle : (F : Fixed) (low pc : ℕ) (m : Light) → Word (λ k. (r : ℕ → ℕ) → IsIdle r k) F.text pc → HasPc pc m → IsFine F low m
fine_idle F low pc (Go r at b i h) w q = inr (w.0, ap F.text q ∙ w.1, w.2 r)
fine_idle F low pc (Done s h) w q = tt
fine_idle F low pc (Fell h) w q = tt

-- ---- a run that has ended or fallen stays so

pub done_stays : (F : Fixed) (k status : ℕ) (h : List Event) → light_run F k (Done status h) ≡ Done status h
done_stays F zero status h = refl
done_stays F (suc k) status h = done_stays F k status h

pub fell_stays : (F : Fixed) (k : ℕ) (h : List Event) → light_run F k (Fell h) ≡ Fell h
fell_stays F zero h = refl
fell_stays F (suc k) h = fell_stays F k h

-- ---- one instruction

at_either : (pc sp : ℕ) (t : Bool) (m n : Light) → At pc sp m → At pc sp n → At pc sp (if t then m else n)
at_either pc sp true m n p q = p
at_either pc sp false m n p q = q

sp_either : (sp : ℕ) (t : Bool) (m n : Light) → HasSp sp m → HasSp sp n → HasSp sp (if t then m else n)
sp_either sp true m n p q = p
sp_either sp false m n p q = q

module _ (F : Fixed) (r : ℕ → ℕ) (pc : ℕ) (b : ℕ → ℕ) (i : List ℕ) (h : List Event) where
  set_off : (rd v : ℕ) → IsOff rd → with_reg r rd v 2 ≡ r 2
  set_off rd v f = with_other r rd v 2 (λ e. f (sym e))

  at_go : (t : Bool) (r2 b2 : ℕ → ℕ) → r2 2 ≡ r 2 → At (pc + 4) (r 2) (if t then Go r2 (pc + 4) b2 i h else Fell h)
  at_go true r2 b2 q = (refl, q)
  at_go false r2 b2 q = tt

  load_at : (kind : LoadKind) (rd a : ℕ) → IsOff rd → At (pc + 4) (r 2) (load F kind rd a r pc b i h)
  load_at load_kind.Word rd a f = at_go (a % 4 == 0 && all_four F.can_read a) (with_reg r rd (word_at b a)) b (set_off rd (word_at b a) f)
  load_at load_kind.ByteUnsigned rd a f = at_go (F.can_read a) (with_reg r rd (b a)) b (set_off rd (b a) f)
  load_at load_kind.Byte rd a f = at_go (F.can_read a) (with_reg r rd (sign_extended 7 (b a))) b (set_off rd (sign_extended 7 (b a)) f)
  load_at load_kind.Half rd a f = at_go (a % 2 == 0 && both F.can_read a) (with_reg r rd (sign_extended 15 (half_at b a))) b (set_off rd (sign_extended 15 (half_at b a)) f)
  load_at load_kind.HalfUnsigned rd a f = at_go (a % 2 == 0 && both F.can_read a) (with_reg r rd (half_at b a)) b (set_off rd (half_at b a) f)

  store_at : (kind : StoreKind) (a v : ℕ) → At (pc + 4) (r 2) (store F kind a v r pc b i h)
  store_at store_kind.Word a v = at_go (a % 4 == 0 && all_four F.can_write a) r (with_word b a v) refl
  store_at store_kind.Byte a v = at_go (F.can_write a) r (with_byte b a (v % 2 ^ 8)) refl
  store_at store_kind.Half a v = at_go (a % 2 == 0 && both F.can_write a) r (with_half b a v) refl

  gets_at : (xs : List ℕ) (a : ℕ) → At (pc + 4) (r 2) (gets r pc b xs a h)
  gets_at [] a = (refl, set_off 10 0 ten)
  gets_at (c ∷ xs) a = (refl, set_off 10 1 ten)

  call_at : (n : ℕ) → At (pc + 4) (r 2) (call F n r pc b i h)
  call_at n =
      at_either (pc + 4) (r 2) (n == 93) (Done (reg r 10 % 2 ^ 8) h) _ tt
      (at_either (pc + 4) (r 2) (n == 63 && (reg r 10 == 0 && reg r 12 == 1)) _ _ (at_either (pc + 4) (r 2) (F.can_write (reg r 11)) _ (Fell h) (gets_at i (reg r 11)) tt)
      (at_either (pc + 4) (r 2) (n == 64 && (reg r 10 == 1 && reg r 12 == 1)) _ (Fell h) (at_either (pc + 4) (r 2) (F.can_read (reg r 11)) _ (Fell h) (refl, set_off 10 1 ten) tt) tt))

  quiet_step : (k : Instr) → IsQuiet k → At (pc + 4) (r 2) (act F (Some k) r pc b i h)
  quiet_step (Lui rd v) f = (refl, set_off rd v f)
  quiet_step (Auipc rd v) f = (refl, set_off rd _ f)
  quiet_step (Jal rd v) f = absurd f
  quiet_step (Jalr rd base v) f = absurd f
  quiet_step (Branch t l k v) f = absurd f
  quiet_step (Load kind rd base v) f = load_at kind rd _ f
  quiet_step (Store kind source base v) f = store_at kind _ _
  quiet_step (Immediate o rd l v) f = (refl, set_off rd _ f)
  quiet_step (Shift o rd l k) f = (refl, set_off rd _ f)
  quiet_step (Op o rd l k) f = (refl, set_off rd _ f)
  quiet_step (Fence rd s v) f = tt
  quiet_step Ecall f = call_at (reg r 17)
  quiet_step Ebreak f = tt

  bare_step : (k : Instr) → IsBare k → HasPc (pc + 4) (act F (Some k) r pc b i h)
  bare_step (Lui rd v) f = refl
  bare_step (Auipc rd v) f = absurd f
  bare_step (Jal rd v) f = absurd f
  bare_step (Jalr rd base v) f = absurd f
  bare_step (Branch t l k v) f = absurd f
  bare_step (Load kind rd base v) f = absurd f
  bare_step (Store kind source base v) f = absurd f
  bare_step (Immediate o rd l v) f = refl
  bare_step (Shift o rd l k) f = absurd f
  bare_step (Op o rd l k) f = refl
  bare_step (Fence rd s v) f = absurd f
  bare_step Ecall f = absurd f
  bare_step Ebreak f = absurd f

  -- a branch does not change sp, wherever it leads
  pub branch_step : (t : Test) (l k v : ℕ) → HasSp (r 2) (act F (Some (Branch t l k v)) r pc b i h)
  branch_step t l k v = let to = if compare_of t (reg r l) (reg r k) then sum32 pc v else pc + 4 in sp_either (r 2) (to % 4 == 0) (Go r to b i h) (Fell h) refl tt

  pub at_text : (k : Instr) → F.text pc ≡ Some k → light_step F (Go r pc b i h) ≡ act F (Some k) r pc b i h
  at_text k e = ap (λ o. act F o r pc b i h) e

pub bare_idle : (k : Instr) → IsBare k → (r : ℕ → ℕ) → IsIdle r k
bare_idle (Lui rd v) f r = tt
bare_idle (Auipc rd v) f r = absurd f
bare_idle (Jal rd v) f r = absurd f
bare_idle (Jalr rd base v) f r = absurd f
bare_idle (Branch t l k v) f r = absurd f
bare_idle (Load kind rd base v) f r = absurd f
bare_idle (Store kind source base v) f r = absurd f
bare_idle (Immediate o rd l v) f r = tt
bare_idle (Shift o rd l k) f r = absurd f
bare_idle (Op o rd l k) f r = tt
bare_idle (Fence rd s v) f r = absurd f
bare_idle Ecall f r = absurd f
bare_idle Ebreak f r = absurd f

-- ---- several words

module _ (F : Fixed) where
  -- the first word, and those after it
  first : (Q : Instr → Type 0) (a n : ℕ) → Words Q F.text a (suc n) → Word Q F.text a
  first Q a n ws = let here : a + 4 * 0 ≡ a = omega arith in subst (Word Q F.text) here (ws 0 (omega arith))

  behind : (Q : Instr → Type 0) (a c n : ℕ) → c ≡ a + 4 → Words Q F.text a (suc n) → Words Q F.text c n
  behind Q a c n e ws m lt = let there : a + 4 * suc m ≡ c + 4 * m = omega (arith, e) in subst (Word Q F.text) there (ws (suc m) (omega (arith, lt)))

  stays_done : (pc sp k status : ℕ) (h : List Event) → At pc sp (light_run F k (Done status h))
  stays_done pc sp k status h = subst (At pc sp) (sym (done_stays F k status h)) tt

  stays_fell : (pc sp k : ℕ) (h : List Event) → At pc sp (light_run F k (Fell h))
  stays_fell pc sp k h = subst (At pc sp) (sym (fell_stays F k h)) tt

  abbrev QuietRuns : ℕ → Type 0
  QuietRuns k = (n a : ℕ) (r b : ℕ → ℕ) (i : List ℕ) (h : List Event) → k ≤ n → Words IsQuiet F.text a n → At (a + 4 * k) (r 2) (light_run F k (Go r a b i h))

  quiet_on : (k n a sp : ℕ) → QuietRuns k → k ≤ n → Words IsQuiet F.text a (suc n) → (m : Light) → At (a + 4) sp m → At (a + 4 * suc k) sp (light_run F k m)
  quiet_on k n a sp more le ws (Go r at b i h) q =
      let there : at + 4 * k ≡ a + 4 * suc k = omega (arith, q.0) in
      let on = more n at r b i h le (behind IsQuiet a at n q.0 ws) in
      subst (λ z. At z sp (light_run F k (Go r at b i h))) there (subst (λ z. At (at + 4 * k) z (light_run F k (Go r at b i h))) q.1 on)
  quiet_on k n a sp more le ws (Done status h) q = stays_done (a + 4 * suc k) sp k status h
  quiet_on k n a sp more le ws (Fell h) q = stays_fell (a + 4 * suc k) sp k h

  -- quiet words are executed one by one, and sp stays
  pub quiet_run : (k : ℕ) → QuietRuns k
  quiet_run zero n a r b i h le ws = let here : a ≡ a + 4 * zero = omega arith in (here, refl)
  quiet_run (suc k) zero a r b i h le ws = absurd (omega (arith, le))
  quiet_run (suc k) (suc n) a r b i h le ws =
      let w = first IsQuiet a n ws in
      subst (λ m. At (a + 4 * suc k) (r 2) (light_run F k m)) (sym (at_text F r a b i h w.0 w.1))
      (quiet_on k n a (r 2) (quiet_run k) (omega (arith, le)) ws (act F (Some w.0) r a b i h) (quiet_step F r a b i h w.0 w.2))

  abbrev BareRuns : ℕ → Type 0
  BareRuns k = (n a : ℕ) (m : Light) → HasPc a m → k ≤ n → Words IsBare F.text a n → HasPc (a + 4 * k) (light_run F k m)

  still : (pc : ℕ) (m : Light) (e : Light) → m ≡ e → HasPc pc e → HasPc pc m
  still pc m e same q = subst (HasPc pc) (sym same) q

  -- bare words are executed one by one
  pub bare_run : (k : ℕ) → BareRuns k
  bare_run zero n a (Go r at b i h) q le ws = let here : at ≡ a + 4 * zero = omega (arith, q) in here
  bare_run zero n a (Done status h) q le ws = tt
  bare_run zero n a (Fell h) q le ws = tt
  bare_run (suc k) n a (Done status h) q le ws = still (a + 4 * suc k) _ (Done status h) (done_stays F (suc k) status h) tt
  bare_run (suc k) n a (Fell h) q le ws = still (a + 4 * suc k) _ (Fell h) (fell_stays F (suc k) h) tt
  bare_run (suc k) zero a (Go r at b i h) q le ws = absurd (omega (arith, le))
  bare_run (suc k) (suc n) a (Go r at b i h) q le ws =
      let w = first IsBare a n ws in
      let there : a + 4 + 4 * k ≡ a + 4 * suc k = omega arith in
      let next : HasPc (a + 4) (light_step F (Go r at b i h)) = subst (HasPc (a + 4)) (sym (at_text F r at b i h w.0 (ap F.text q ∙ w.1))) (subst (λ z. HasPc (z + 4) (act F (Some w.0) r at b i h)) q (bare_step F r at b i h w.0 w.2)) in
      subst (λ z. HasPc z (light_run F k (light_step F (Go r at b i h)))) there (bare_run k n (a + 4) (light_step F (Go r at b i h)) next (omega (arith, le)) (behind IsBare a (a + 4) n refl ws))

  -- and none of them loads or stores
  pub bare_fine : (low n a k : ℕ) (m : Light) → HasPc a m → k < n → Words IsBare F.text a n → IsFine F low (light_run F k m)
  bare_fine low n a k m q lt ws =
      let w = ws k lt in
      fine_idle F low (a + 4 * k) (light_run F k m) (w.0, w.1, bare_idle w.0 w.2) (bare_run k n a m q (omega (arith, lt)) ws)
