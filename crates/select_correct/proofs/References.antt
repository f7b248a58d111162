-- The machine follows flat code: references to locations and to elements.
use Rattle.std.proofs.Common.{◌≡◌, ℕ, suc, ◌+◌, ◌%◌, ◌^◌, ◌<◌, ◌≤◌, ◌∷◌, ◌++◌, Option, Some, None, false, refl, sym, ap, ◌∙◌, arith, eqb}
use Rattle.std.proofs.lemmas.Bool.{ltb-true}
use Rattle.std.proofs.lemmas.Bool.Decides.{nat_tests}
use Rattle.std.specs.Prelude.{slice_get}
use Rattle.rv32.specs.declared.instr.ImmediateOp.TheVariants as immediate_op
use Rattle.asm.specs.declared.item.Item.TheVariants as item
use Rattle.select_exec.specs.Standing.{Stands}
use Rattle.frames_code.specs.declared.code.Operand.{Operand}
use Rattle.frames_code.specs.declared.code.Target.{Target}
use Rattle.frames_code.specs.declared.code.Base.{Base}
use Rattle.frames_code.specs.declared.code.Location.{Location}
use Rattle.frames_code.specs.declared.code.Location.TheVariants as location
use Rattle.frames_code.specs.declared.code.Instruction.TheVariants as instruction
use Rattle.frames_code.specs.Code.{area_home, frame_bytes}
use Rattle.frames_code.specs.Sound.{TargetFits, LocationFits}
use Rattle.frames_code.specs.Run.{Value, word, reference, Reference, reference_in, unset, State, Progress, value, gives, name_of, place, act}
use Rattle.select_exec.specs.Light.{Light, Go, reg, with_reg, Comes}
use Rattle.select_exec.proofs.Words.{reg_is, with_same}
use Rattle.select_exec.proofs.Bridge.{bool_cases}
use Rattle.select_exec.proofs.Steps.{comes_by, on_immediate}
use Rattle.select_exec.proofs.ItemSteps.{on_loads}
use Rattle.select_exec.proofs.Standing.{stands_parts}
use Rattle.select.specs.declared.places.Home.{Home}
use Rattle.select.specs.Selected.{is_near_gp, from_gp, static_address, add_to, source_of, home_of, made_in, keep, address_of, indexed, base_offset}
use Rattle.select_correct.specs.Matches.{Ground, Matched, Matches, Ready, address, shown}
use Rattle.select_correct.specs.Costs.{static_cost, address_cost, keep_cost, move_cost, reach_cost, row}
use Rattle.select_correct.specs.Laws.{Anything, Follows}
use Rattle.select_correct.proofs.Registers.{Off, off_none, off_then, off_last, only_one}
use Rattle.select_correct.proofs.Places.{onward, addresses}
use Rattle.select_correct.proofs.Fits.{frame_room}
use Rattle.select_correct.proofs.Frames.{within, operand_holds}
use Rattle.select_correct.proofs.Forms.{used, fn, fits, no_more, made_above, finishes, move_some, moves_at}
use Rattle.select_correct.proofs.Indexing.{from_gp_reaches, frame_shown, shown_small, indexes}

pub reference_some : (o : Option Value) (x : Reference) → reference_in o ≡ Some x → o ≡ Some (reference x.list x.offset)
reference_some None x e = cc
reference_some (Some (word w)) x e = cc
reference_some (Some (reference l k)) x e =
    let held : Reference = record { list = l; offset = k } in
    let same : held ≡ x = cc in
    ap (λ y. Some (reference y.list y.offset)) same

module _ (G : Ground) (s : State) (r b : ℕ → ℕ) (ready : Ready G) (m : Matched G s r (address G s.frame.function s.frame.at) b) where
  abbrev start : ℕ
  start = address G s.frame.function s.frame.at

  abbrev end : ℕ
  end = address G s.frame.function (s.frame.at + 1)

  none_left : (k : ℕ) (v : Value) → unset k ≡ Some v → s.arguments k ≡ Some v
  none_left k v e = cc

  -- the address of a place of the frame's arrays
  frame_at : (d : Target) (o : ℕ) → TargetFits (fn G s r b ready m) d → o < (fn G s r b ready m).area → (hm : Home) → home_of (fn G s r b ready m) d ≡ hm
      → Stands G.machine.text G.env G.data_at (address_of (made_in hm) (area_home (fn G s r b ready m) + o) ++ keep hm) start end
      → Comes G.machine Anything 1 (address_cost (area_home (fn G s r b ready m) + o) + keep_cost hm) (Go r start b s.input s.trace) (Matches G (gives d s (reference (name_of G.program s.frame s.waiting) (area_home (fn G s r b ready m) + o))))
  frame_at d o fit lt hm eh st =
      let f = fn G s r b ready m in
      let p = area_home f + o in
      let v = reference (name_of G.program s.frame s.waiting) p in
      let Q : Light → Type 0 = Matches G (gives d s v) in
      let rd = made_in hm in
      let above : 5 ≤ rd = made_above G s r b ready m d hm eh in
      let pos : 0 < rd = omega (arith, above) in
      let win = within G ready s r start b m in
      let inside : p < frame_bytes f = omega (arith, lt, frame_room f) in
      let is : shown G v ≡ m.sp + p = frame_shown G s r b ready m p inside in
      let small : shown G v < 2 ^ 32 = omega (arith, is, win.top, inside) in
      let one = stands_parts G.machine.text G.env G.data_at (address_of rd p) (keep hm) start end st in
      addresses G.machine G.env G.data_at s.input s.trace Q {a0 = 0} (keep_cost hm) rd p m.sp start one.0 r b pos (λ x. omega (arith, x, above)) m.sp_is (omega (arith, win.top, inside)) one.1 (λ r2 only held.
      finishes G s r b ready m unset none_left d v fit small hm eh r2 (off_last rd r r r2 (off_none 5 r) only) (reg_is r2 rd pos ∙ (held ∙ sym is)) one.0 one.2)

  -- an address in the statics
  statics_at : (d : Target) (o : ℕ) → TargetFits (fn G s r b ready m) d → (hm : Home) → home_of (fn G s r b ready m) d ≡ hm → Stands G.machine.text G.env G.data_at (static_address (made_in hm) o ∷ keep hm) start end
      → Comes G.machine Anything 1 (static_cost o + keep_cost hm) (Go r start b s.input s.trace) (Matches G (gives d s (reference 0 o)))
  statics_at d o fit hm eh st =
      let v = reference 0 o in
      let Q : Light → Type 0 = Matches G (gives d s v) in
      let rd = made_in hm in
      let above : 5 ≤ rd = made_above G s r b ready m d hm eh in
      let pos : 0 < rd = omega (arith, above) in
      let w = G.data_at + o in
      let is : w < 2 ^ 32 → shown G v ≡ w = λ small. omega (arith, small) in
      let r2 = with_reg r rd w in
      let held : w < 2 ^ 32 → reg r2 rd ≡ shown G v = λ small. reg_is r2 rd pos ∙ (with_same r rd w pos ∙ sym (is small)) in
      let only = off_last rd r r r2 (off_none 5 r) (only_one rd w r) in
      bool_cases (is_near_gp o)
      (λ t.
      let one : Stands G.machine.text G.env G.data_at (add_to rd 3 (from_gp o) ∷ keep hm) start end = rw t at st in
      let near : o < 0x1000 = ltb-true o 0x1000 t in
      let small : w < 2 ^ 32 = omega (arith, near, ready.data_below, ready.floor_below) in
      let sum : (r 3 + from_gp o) % 2 ^ 32 ≡ w = ap (λ x. (x + from_gp o) % 2 ^ 32) m.gp_is ∙ from_gp_reaches G ready o near in
      let count : static_cost o ≡ 1 = rw t refl in
      comes_by G.machine Anything (suc (keep_cost hm)) (static_cost o + keep_cost hm) (Go r start b s.input s.trace) Q (omega (arith, count))
      (on_immediate G.machine Anything Q (keep_cost hm) r start b s.input s.trace tt immediate_op.Add rd 3 (from_gp o) w one.1.0 sum
      (onward G.machine G.env G.data_at s.input s.trace Q {a0 = 0} (keep_cost hm) (start + 4) one.0 r2 b (sym one.1.1)
      (finishes G s r b ready m unset none_left d v fit (omega (arith, is small, small)) hm eh r2 only (held small) one.0 one.2))))
      (λ t.
      let far : Stands G.machine.text G.env G.data_at (item.DataAddress rd o ∷ keep hm) start end = rw t at st in
      let q = far.1 in
      let small : w < 2 ^ 32 = omega (arith, q.value) in
      let none : eqb rd 0 ≡ false = grind (arith, nat_tests) in
      let count : static_cost o ≡ 2 = rw t refl in
      comes_by G.machine Anything (suc (suc (keep_cost hm))) (static_cost o + keep_cost hm) (Go r start b s.input s.trace) Q (omega (arith, count))
      (on_loads G.machine Anything Q (keep_cost hm) r start b s.input s.trace tt rd w far.0 none q tt
      (finishes G s r b ready m unset none_left d v fit (omega (arith, is small, small)) hm eh r2 only (held small) far.0 far.2)))

  -- the address of an element by an index
  indexed_at : (d : Target) (bs : Base) (y : Operand) (size : ℕ) (v : Reference) → TargetFits (fn G s r b ready m) d → LocationFits (fn G s r b ready m) (location.Indexed bs y size) → place G.program s (location.Indexed bs y size) ≡ Some v → (hm : Home) → home_of (fn G s r b ready m) d ≡ hm
      → Stands G.machine.text G.env G.data_at (indexed bs (source_of (fn G s r b ready m) y) size ++ (add_to (made_in hm) 6 (base_offset (fn G s r b ready m) bs) ∷ keep hm)) start end
      → Comes G.machine Anything 1 (reach_cost (fn G s r b ready m) (location.Indexed bs y size) + (1 + keep_cost hm)) (Go r start b s.input s.trace) (Matches G (gives d s (reference v.list v.offset)))
  indexed_at d bs y size v fd fl ev hm eh st =
      let f = fn G s r b ready m in
      let x = reference v.list v.offset in
      let w = shown G x in
      let Q : Light → Type 0 = Matches G (gives d s x) in
      let rd = made_in hm in
      let above : 5 ≤ rd = made_above G s r b ready m d hm eh in
      let pos : 0 < rd = omega (arith, above) in
      let one = stands_parts G.machine.text G.env G.data_at (indexed bs (source_of f y) size) (add_to rd 6 (base_offset f bs) ∷ keep hm) start end st in
      let last = one.2 in
      indexes G s r b ready m Q (1 + keep_cost hm) bs y size v fl ev r (off_none 5 r) start one.0 one.1 (λ r2 only sum.
      let r3 = with_reg r2 rd w in
      let off : Off rd r r3 = off_last rd r r2 r3 (off_then 5 6 r r r2 (omega arith) (omega arith) (off_none 5 r) only) (only_one rd w r2) in
      comes_by G.machine Anything (suc (keep_cost hm)) (1 + keep_cost hm) (Go r2 one.0 b s.input s.trace) Q (omega arith)
      (on_immediate G.machine Anything Q (keep_cost hm) r2 one.0 b s.input s.trace tt immediate_op.Add rd 6 (base_offset f bs) w last.1.0 sum
      (onward G.machine G.env G.data_at s.input s.trace Q {a0 = 0} (keep_cost hm) (one.0 + 4) last.0 r3 b (sym last.1.1)
      (finishes G s r b ready m unset none_left d x fd (shown_small G v.list v.offset) hm eh r3 off (reg_is r3 rd pos ∙ with_same r2 rd w pos) last.0 last.2))))

  does_address : (d : Target) (l : Location) → slice_get (fn G s r b ready m).code s.frame.at ≡ Some (instruction.Address d l) → Comes G.machine Anything 1 (row (fn G s r b ready m) (instruction.Address d l)) (Go r start b s.input s.trace) (Matches G (act G.program s (instruction.Address d l)))
  does_address d (location.Statics o) e =
      statics_at d o (fits G s r b ready m (instruction.Address d (location.Statics o)) e).0 (home_of (fn G s r b ready m) d) refl (ready.stands s.frame.function s.frame.at (instruction.Address d (location.Statics o)) e)
  does_address d (location.Frame o) e =
      let fit = fits G s r b ready m (instruction.Address d (location.Frame o)) e in
      frame_at d o fit.0 fit.1 (home_of (fn G s r b ready m) d) refl (ready.stands s.frame.function s.frame.at (instruction.Address d (location.Frame o)) e)
  does_address d (location.At x) e =
      let R : Progress → Type 0 = λ p. Comes G.machine Anything 1 (move_cost (home_of (fn G s r b ready m) d) (source_of (fn G s r b ready m) x)) (Go r start b s.input s.trace) (Matches G p) in
      let f = fn G s r b ready m in
      let fit = fits G s r b ready m (instruction.Address d (location.At x)) e in
      used (reference_in (value s x)) (λ y. gives d s (reference y.list y.offset)) R (no_more G s r b ready m 1 (move_cost (home_of (fn G s r b ready m) d) (source_of (fn G s r b ready m) x)) (Go r start b s.input s.trace) (move_some (home_of (fn G s r b ready m) d) (source_of (fn G s r b ready m) x))) (λ y ey.
      let v = reference y.list y.offset in
      let hx = operand_holds G ready s r start b m x v fit.1 (reference_some (value s x) y ey) in
      moves_at G s r b ready m unset none_left d v (source_of f x) fit.0 hx.1 hx.0 (home_of f d) refl (ready.stands s.frame.function s.frame.at (instruction.Address d (location.At x)) e))
  does_address d (location.Indexed bs y size) e =
      let l = location.Indexed bs y size in
      let f = fn G s r b ready m in
      let R : Progress → Type 0 = λ p. Comes G.machine Anything 1 (row f (instruction.Address d l)) (Go r start b s.input s.trace) (Matches G p) in
      let fit = fits G s r b ready m (instruction.Address d l) e in
      used (place G.program s l) (λ v. gives d s (reference v.list v.offset)) R (no_more G s r b ready m 1 (row f (instruction.Address d l)) (Go r start b s.input s.trace) (omega arith)) (λ v ev.
      indexed_at d bs y size v fit.0 fit.1 ev (home_of f d) refl (ready.stands s.frame.function s.frame.at (instruction.Address d l) e))

-- ---- as laws

pub address_follows : (d : Target) (l : Location) → Follows (instruction.Address d l)
address_follows d l G s r b ready m under e room = does_address G s r b ready m d l e
