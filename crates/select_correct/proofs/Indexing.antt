-- The machine follows flat code: the address of an element by an index.
use Rattle.std.proofs.Common.{◌≡◌, ℕ, zero, suc, ◌+◌, ◌-◌, ◌*◌, ◌%◌, ◌^◌, ◌<◌, [], ◌∷◌, ◌++◌, Option, Some, None, refl, sym, ap, ◌∙◌, subst, arith}
use Rattle.std.specs.Int.{w32, trailing_zeros}
use Rattle.rv32.specs.declared.instr.RegisterOp.TheVariants as register_op
use Rattle.rv32.specs.Arithmetic.{operate_of}
use Rattle.select_exec.specs.Standing.{Stands}
use Rattle.frames_code.specs.declared.code.Operand.{Operand}
use Rattle.frames_code.specs.declared.code.Base.{Base}
use Rattle.frames_code.specs.declared.code.Base.TheVariants as base
use Rattle.frames_code.specs.declared.code.Location.TheVariants as location
use Rattle.frames_code.specs.Code.{area_home, frame_bytes}
use Rattle.frames_code.specs.Sound.{BaseFits, LocationFits}
use Rattle.frames_code.specs.Run as flat
use Rattle.frames_code.specs.Run.{word, reference, Reference, State, value, word_at, name_of, place}
use Rattle.select_exec.specs.Light.{Light, Go, reg, with_reg, sum32, Comes}
use Rattle.select_exec.proofs.Words.{reg_is, with_same}
use Rattle.select_exec.proofs.Steps.{comes_by, on_op}
use Rattle.select_exec.proofs.Standing.{stands_parts}
use Rattle.select.specs.Selected.{from_gp, source_of, fetch, register_of, operate_on, scale, scaled_in, base_register, base_offset, indexed}
use Rattle.select.proofs.Powers.{power_is, index_fits}
use Rattle.select_correct.specs.Matches.{gp_of, Ground, Matched, Ready, address, shown}
use Rattle.select_correct.specs.Costs.{fetch_cost, scale_cost, reach_cost}
use Rattle.select_correct.specs.Laws.{Anything}
use Rattle.select_correct.proofs.Registers.{Off, Only, off_then, off_sp, off_gp, only_one, only_then}
use Rattle.select_correct.proofs.Places.{near_sum, onward, fetches}
use Rattle.select_correct.proofs.Fits.{frame_room}
use Rattle.select_correct.proofs.Frames.{sum_is, within, operand_holds}
use Rattle.select_correct.proofs.Forms.{word_some, fn, open_stack}
use Rattle.select_correct.proofs.Scaling.{shifts}

-- a static near gp is reached from there
pub from_gp_reaches : (G : Ground) → Ready G → (o : ℕ) → o < 0x1000 → (gp_of G + from_gp o) % 2 ^ 32 ≡ G.data_at + o
from_gp_reaches G ready o near = omega (arith, near, ready.data_below, ready.floor_below)

-- a frame's name is never that of the statics
pub shown_frame : (G : Ground) (l o sp : ℕ) → 0 < l → G.sp - l ≡ sp → sp + o < 2 ^ 32 → shown G (reference l o) ≡ sp + o
shown_frame G zero o sp pos e small = absurd (omega (arith, pos))
shown_frame G (suc l) o sp pos e small = ap (λ x. (x + o) % 2 ^ 32) e ∙ omega (arith, small)

-- an offset more, modulo 2^32
pub shown_plus : (G : Ground) (l o k : ℕ) → shown G (reference l (o + k)) ≡ (shown G (reference l o) + k % 2 ^ 32) % 2 ^ 32
shown_plus G zero o k = omega arith
shown_plus G (suc l) o k = omega arith

pub shown_small : (G : Ground) (l o : ℕ) → shown G (reference l o) < 2 ^ 32
shown_small G zero o = omega arith
shown_small G (suc l) o = omega arith

-- a sum of three, modulo 2^32
added : (a t o w : ℕ) → (a + o) % 2 ^ 32 ≡ w → ((a + t) % 2 ^ 32 + o) % 2 ^ 32 ≡ (w + t) % 2 ^ 32
added a t o w e = omega (arith, e)

index_given : (x : Reference) (size : ℕ) (o : Option ℕ) (v : Reference) → flat.indexed x size o ≡ Some v → (k : ℕ) × (o ≡ Some k) × (v.list ≡ x.list) × (v.offset ≡ x.offset + k * size)
index_given x size None v e = cc
index_given x size (Some k) v e =
    let held : Reference = record { list = x.list; offset = x.offset + k * size } in
    let same : v ≡ held = cc in
    (k, refl, ap (λ (y : Reference). y.list) same, ap (λ (y : Reference). y.offset) same)

module _ (G : Ground) (s : State) (r b : ℕ → ℕ) (ready : Ready G) (m : Matched G s r (address G s.frame.function s.frame.at) b) where
  abbrev start : ℕ
  start = address G s.frame.function s.frame.at

  -- the address of the named frame
  pub frame_shown : (o : ℕ) → o < frame_bytes (fn G s r b ready m) → shown G (reference (name_of G.program s.frame s.waiting) o) ≡ m.sp + o
  frame_shown o lt =
      let sum = sum_is G ready s r start b m in
      let win = within G ready s r start b m in
      let room = frame_room (fn G s r b ready m) in
      let pos : 0 < name_of G.program s.frame s.waiting = omega (arith, room) in
      let at : G.sp - name_of G.program s.frame s.waiting ≡ m.sp = omega (arith, sum) in
      shown_frame G (name_of G.program s.frame s.waiting) o m.sp pos at (omega (arith, win.top, lt))

  -- the address that a base names: r1 are the registers so far
  base_shown : (bs : Base) → BaseFits (fn G s r b ready m) bs → (r1 : ℕ → ℕ) → Off 5 r r1
      → (reg r1 (base_register bs) + base_offset (fn G s r b ready m) bs) % 2 ^ 32 ≡ shown G (reference (flat.base_of G.program s bs).list (flat.base_of G.program s bs).offset)
  base_shown (base.Statics o) fit r1 off =
      let gp : r1 3 ≡ gp_of G = off_gp 5 r r1 off (λ x. omega (arith, x)) ∙ m.gp_is in
      let small : G.data_at + o < 2 ^ 32 = omega (arith, fit, ready.data_below, ready.floor_below) in
      let is : shown G (reference 0 o) ≡ G.data_at + o = omega (arith, small) in
      ap (λ x. (x + from_gp o) % 2 ^ 32) gp ∙ (from_gp_reaches G ready o fit ∙ sym is)
  base_shown (base.Frame o) fit r1 off =
      let f = fn G s r b ready m in
      let p = area_home f + o in
      let sp1 : r1 2 ≡ m.sp = off_sp 5 r r1 off (λ x. omega (arith, x)) ∙ m.sp_is in
      let win = within G ready s r start b m in
      let inside : p < frame_bytes f = omega (arith, fit.0, frame_room f) in
      near_sum (r1 2) m.sp p sp1 fit.1 (omega (arith, win.top, inside)) ∙ sym (frame_shown p inside)

  -- x6 and the base's offset are the address of the element
  pub indexes : (Q : Light → Type 0) (n : ℕ) (bs : Base) (y : Operand) (size : ℕ) (v : Reference) → LocationFits (fn G s r b ready m) (location.Indexed bs y size) → place G.program s (location.Indexed bs y size) ≡ Some v → (r1 : ℕ → ℕ) → Off 5 r r1
      → (here mid : ℕ) → Stands G.machine.text G.env G.data_at (indexed bs (source_of (fn G s r b ready m) y) size) here mid
      → ((r2 : ℕ → ℕ) → Only 6 r1 r2 → sum32 (reg r2 6) (base_offset (fn G s r b ready m) bs) ≡ shown G (reference v.list v.offset) → Comes G.machine Anything 1 n (Go r2 mid b s.input s.trace) Q)
      → Comes G.machine Anything 1 (reach_cost (fn G s r b ready m) (location.Indexed bs y size) + n) (Go r1 here b s.input s.trace) Q
  indexes Q n bs y size v fit e r1 off here mid st next_to =
      let f = fn G s r b ready m in
      let o = source_of f y in
      let q = register_of 6 o in
      let x = flat.base_of G.program s bs in
      let given = index_given x size (word_at s y) v e in
      let k = given.0 in
      let hy = operand_holds G ready s r start b m y (word k) (index_fits f y fit.1) (word_some (value s y) k given.1) in
      let sum = operate_on register_op.Add 6 (base_register bs) (scaled_in q size) in
      let one = stands_parts G.machine.text G.env G.data_at (fetch 6 o) (scale q size ++ (sum ∷ [])) here mid st in
      let two = stands_parts G.machine.text G.env G.data_at (scale q size) (sum ∷ []) one.0 mid one.2 in
      let last = two.2 in
      comes_by G.machine Anything (fetch_cost o + (scale_cost size + suc n)) (reach_cost f (location.Indexed bs y size) + n) (Go r1 here b s.input s.trace) Q (omega arith)
      (fetches G.machine G.env G.data_at s.input s.trace Q m.sp (open_stack G s r b ready m) r b m.sp_is (scale_cost size + suc n) 6 (omega arith) (omega arith) o k here one.0 r1 off hy.0 one.1 (λ r2 only2 held2.
      shifts G.machine G.env G.data_at s.input s.trace Q r2 b (suc n) q k (trailing_zeros w32 size) size one.0 two.0 hy.1 (power_is size fit.2) held2 two.1 (λ r3 only3 held3.
      let off3 : Off 5 r r3 = off_then 5 6 r r2 r3 (omega arith) (omega arith) (off_then 5 6 r r1 r2 (omega arith) (omega arith) off only2) only3 in
      let a = reg r3 (base_register bs) in
      let t = k * size % 2 ^ 32 in
      let w = (a + t) % 2 ^ 32 in
      let is : operate_of register_op.Add a (reg r3 (scaled_in q size)) ≡ w = ap (λ z. (a + z) % 2 ^ 32) held3 in
      let r4 = with_reg r3 6 w in
      let held4 : reg r4 6 ≡ w = reg_is r4 6 (omega arith) ∙ with_same r3 6 w (omega arith) in
      let named : shown G (reference v.list v.offset) ≡ shown G (reference x.list (x.offset + k * size)) = ap (λ l. shown G (reference l v.offset)) given.2 ∙ ap (λ z. shown G (reference x.list z)) given.3 in
      let there : sum32 (reg r4 6) (base_offset f bs) ≡ shown G (reference v.list v.offset) =
      ap (λ z. (z + base_offset f bs) % 2 ^ 32) held4 ∙ (added a t (base_offset f bs) (shown G (reference x.list x.offset)) (base_shown bs fit.0 r3 off3) ∙ (sym (shown_plus G x.list x.offset (k * size)) ∙ sym named)) in
      let only4 : Only 6 r1 r4 = only_then 6 r1 r3 r4 (only_then 6 r1 r2 r3 only2 only3) (only_one 6 w r3) in
      let c : Comes G.machine Anything 1 n (Go r4 (two.0 + 4) b s.input s.trace) Q = onward G.machine G.env G.data_at s.input s.trace Q {a0 = 1} n (two.0 + 4) mid r4 b (sym last.1.1 ∙ last.2) (next_to r4 only4 there) in
      on_op G.machine Anything Q n r3 two.0 b s.input s.trace tt register_op.Add 6 (base_register bs) (scaled_in q size) last.1.0
      (subst (λ z. Comes G.machine Anything 1 n (Go (with_reg r3 6 z) (two.0 + 4) b s.input s.trace) Q) (sym is) c))))
