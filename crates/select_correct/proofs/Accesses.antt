-- The machine follows flat code: loads and stores of elements.
use Rattle.std.proofs.Common.{◌≡◌, ℕ, zero, suc, List, ◌+◌, ◌%◌, ◌^◌, ◌<◌, ◌≤◌, ◌∷◌, ◌++◌, [], ◌⊎◌, inl, inr, ⊎_elim, Some, Bool, true, false, refl, sym, ap, ◌∙◌, arith, eqb}
use Rattle.std.specs.Prelude.{if◌then◌else◌, ◌&&◌, nat_le, slice_get}
use Rattle.std.proofs.lemmas.Bool.{ltb-true}
use Rattle.std.proofs.lemmas.Bool.Decides.{nat_tests}
use Rattle.rv32.specs.declared.instr.Instr.TheVariants as instr
use Rattle.asm.specs.declared.item.Item.TheVariants as item
use Rattle.select_exec.specs.Standing.{Stands}
use Rattle.frames_code.specs.declared.code.Operand.{Operand}
use Rattle.frames_code.specs.declared.code.Target.{Target}
use Rattle.frames_code.specs.declared.code.Width.{Width}
use Rattle.frames_code.specs.declared.code.Width.TheVariants as width
use Rattle.frames_code.specs.declared.code.Location.{Location}
use Rattle.frames_code.specs.declared.code.Location.TheVariants as location
use Rattle.frames_code.specs.declared.code.Instruction.TheVariants as instruction
use Rattle.frames_code.specs.Code.{Program, area_home, frame_bytes}
use Rattle.frames_code.specs.Sound.{TargetFits, LocationFits}
use Rattle.frames_code.specs.Run.{Value, word, reference, Reference, Memory, Frame, Bytes, changed_among, reference_in, size_of, element_in, with_element, unset, next, State, Progress, running, stuck, value, word_at, gives_word, place, memory, with_memory, with_frames, loaded, stored, act, ◌>>=◌}
use Rattle.frames_code.specs.Run as flat
use Rattle.select_exec.specs.Light.{Light, Go, reg, with_reg, sum32, Comes}
use Rattle.select_exec.proofs.Bridge.{bool_cases, and_left, and_right}
use Rattle.select_exec.proofs.Words.{reg_is, with_same}
use Rattle.select_exec.proofs.Steps.{comes_now, comes_by}
use Rattle.select_exec.proofs.ItemSteps.{on_loads}
use Rattle.select_exec.proofs.Standing.{stands_parts}
use Rattle.select.specs.declared.places.Source.{Source}
use Rattle.select.specs.declared.places.Home.{Home}
use Rattle.select.specs.Selected.{is_near_gp, from_gp, source_of, home_of, fetch, register_of, made_in, keep, reach, reach_base, reach_offset, load_of, store_of, load, store}
use Rattle.select_correct.specs.Matches.{gp_of, Ground, Matched, Matches, Ready, address, shown}
use Rattle.select_correct.specs.Costs.{fetch_cost, keep_cost, reach_cost, row}
use Rattle.select_correct.specs.Laws.{Anything, Follows}
use Rattle.select_correct.proofs.Registers.{Off, Only, off_none, off_only, off_then, off_last, off_sp, off_gp, only_none, only_one, only_reg}
use Rattle.select_correct.proofs.Places.{SourceHolds, source_stays, onward, far_runs, fetches}
use Rattle.select_correct.proofs.Fits.{frame_room}
use Rattle.select_correct.proofs.Frames.{within, operand_holds}
use Rattle.select_correct.proofs.Forms.{used, word_some, fn, open_stack, fits, no_more, made_above, finishes}
use Rattle.select_correct.proofs.Indexing.{from_gp_reaches, frame_shown, indexes}
use Rattle.select_correct.proofs.References.{reference_some}
use Rattle.select_correct.proofs.Bytes.{element_held, element_small, put_held, put_off, put_bytes, put_here, element_here, aligned_for, loads_element, stores_element}
use Rattle.select_correct.proofs.Areas.{start_of, shown_in, memory_lives, matched_put}

tested : (t : Bool) (go : Progress) (R : Progress → Type 0) → R stuck → (t ≡ true → R go) → R (if t then go else stuck)
tested true go R none some = some refl
tested false go R none some = none

-- an element is within its list
record Lying (w : Width) (o : ℕ) (x : Memory) : Type 0 where
  pub even : o % size_of w ≡ 0
  pub low : x.first ≤ o
  pub high : o + size_of w ≤ x.past

lying : (w : Width) (o : ℕ) (x : Memory) → flat.fits w o x ≡ true → Lying w o x
lying w o x t =
    let a : eqb (o % size_of w) 0 ≡ true = and_left (eqb (o % size_of w) 0) (nat_le x.first o && nat_le (o + size_of w) x.past) t in
    let c = and_right (eqb (o % size_of w) 0) (nat_le x.first o && nat_le (o + size_of w) x.past) t in
    let d : nat_le x.first o ≡ true = and_left (nat_le x.first o) (nat_le (o + size_of w) x.past) c in
    let e : nat_le (o + size_of w) x.past ≡ true = and_right (nat_le x.first o) (nat_le (o + size_of w) x.past) c in
    record { even = grind (arith, nat_tests); low = grind (arith, nat_tests); high = grind (arith, nat_tests) }

sized : (w : Width) → 0 < size_of w
sized width.Byte = omega arith
sized width.SignedByte = omega arith
sized width.Half = omega arith
sized width.SignedHalf = omega arith
sized width.Word = omega arith

-- ---- the trace and the remaining input stay the same

frames_input : (s : State) (fs : List Frame) → s.input ≡ (with_frames s fs).input
frames_input s [] = refl
frames_input s (w ∷ ws) = refl

frames_trace : (s : State) (fs : List Frame) → s.trace ≡ (with_frames s fs).trace
frames_trace s [] = refl
frames_trace s (w ∷ ws) = refl

pub memory_input : (p : Program) (s : State) (l : ℕ) (bytes : Bytes) → s.input ≡ (with_memory p (next s) l bytes).input
memory_input p s zero bytes = refl
memory_input p s (suc l) bytes = frames_input (next s) (changed_among p ((next s).frame ∷ s.waiting) (suc l) bytes)

pub memory_trace : (p : Program) (s : State) (l : ℕ) (bytes : Bytes) → s.trace ≡ (with_memory p (next s) l bytes).trace
memory_trace p s zero bytes = refl
memory_trace p s (suc l) bytes = frames_trace (next s) (changed_among p ((next s).frame ∷ s.waiting) (suc l) bytes)

module _ (G : Ground) (s : State) (r b : ℕ → ℕ) (ready : Ready G) (m : Matched G s r (address G s.frame.function s.frame.at) b) where
  abbrev start : ℕ
  start = address G s.frame.function s.frame.at

  abbrev end : ℕ
  end = address G s.frame.function (s.frame.at + 1)

  none_left : (k : ℕ) (v : Value) → unset k ≡ Some v → s.arguments k ≡ Some v
  none_left k v e = cc

  -- the address that a location names is in a register; r1 are the registers so far
  reaches : (Q : Light → Type 0) (n : ℕ) (l : Location) (v : Reference) → LocationFits (fn G s r b ready m) l → place G.program s l ≡ Some v → (r1 : ℕ → ℕ) → Off 5 r r1 → (here mid : ℕ) → Stands G.machine.text G.env G.data_at (reach (fn G s r b ready m) l) here mid
      → ((r2 : ℕ → ℕ) → Only 6 r1 r2 → sum32 (reg r2 (reach_base (fn G s r b ready m) l)) (reach_offset (fn G s r b ready m) l) ≡ shown G (reference v.list v.offset) → Comes G.machine Anything 1 n (Go r2 mid b s.input s.trace) Q)
      → Comes G.machine Anything 1 (reach_cost (fn G s r b ready m) l + n) (Go r1 here b s.input s.trace) Q
  reaches Q n (location.Statics o) v fit e r1 off here mid st next_to =
      let held : Reference = record { list = 0; offset = o } in
      let same : held ≡ v = cc in
      let w = G.data_at + o in
      let is : w < 2 ^ 32 → w ≡ shown G (reference v.list v.offset) = λ small. sym (shown_in G 0 o small) ∙ ap (λ (y : Reference). shown G (reference y.list y.offset)) same in
      bool_cases (is_near_gp o)
      (λ t.
      let now : here ≡ mid = rw t at st in
      let near : o < 0x1000 = ltb-true o 0x1000 t in
      let gp : r1 3 ≡ gp_of G = off_gp 5 r r1 off (λ x. omega (arith, x)) ∙ m.gp_is in
      let small : w < 2 ^ 32 = omega (arith, near, ready.data_below, ready.floor_below) in
      let sum : sum32 (reg r1 (reach_base (fn G s r b ready m) (location.Statics o))) (reach_offset (fn G s r b ready m) (location.Statics o)) ≡ w =
      rw t (ap (λ x. (x + from_gp o) % 2 ^ 32) gp ∙ from_gp_reaches G ready o near) in
      let count : reach_cost (fn G s r b ready m) (location.Statics o) ≡ 0 = rw t refl in
      comes_by G.machine Anything n (reach_cost (fn G s r b ready m) (location.Statics o) + n) (Go r1 here b s.input s.trace) Q (omega (arith, count))
      (onward G.machine G.env G.data_at s.input s.trace Q {a0 = 1} n here mid r1 b now (next_to r1 (only_none 6 r1) (sum ∙ is small))))
      (λ t.
      let far : Stands G.machine.text G.env G.data_at (item.DataAddress 6 o ∷ []) here mid = rw t at st in
      let q = far.1 in
      let small : w < 2 ^ 32 = omega (arith, q.value) in
      let r2 = with_reg r1 6 w in
      let sum0 : sum32 (reg r2 6) 0 ≡ w = omega (arith, small) in
      let sum : sum32 (reg r2 (reach_base (fn G s r b ready m) (location.Statics o))) (reach_offset (fn G s r b ready m) (location.Statics o)) ≡ w = rw t sum0 in
      let count : reach_cost (fn G s r b ready m) (location.Statics o) ≡ 2 = rw t refl in
      comes_by G.machine Anything (suc (suc n)) (reach_cost (fn G s r b ready m) (location.Statics o) + n) (Go r1 here b s.input s.trace) Q (omega (arith, count))
      (on_loads G.machine Anything Q n r1 here b s.input s.trace tt 6 w far.0 refl q tt
      (onward G.machine G.env G.data_at s.input s.trace Q {a0 = 1} n far.0 mid r2 b far.2 (next_to r2 (only_one 6 w r1) (sum ∙ is small)))))
  reaches Q n (location.Frame o) v fit e r1 off here mid st next_to =
      let f = fn G s r b ready m in
      let p = area_home f + o in
      let held : Reference = record { list = flat.name_of G.program s.frame s.waiting; offset = p } in
      let same : held ≡ v = cc in
      let win = within G ready s r start b m in
      let inside : p < frame_bytes f = omega (arith, fit, frame_room f) in
      let is : m.sp + p ≡ shown G (reference v.list v.offset) = sym (frame_shown G s r b ready m p inside) ∙ ap (λ (y : Reference). shown G (reference y.list y.offset)) same in
      let sp1 : r1 2 ≡ m.sp = off_sp 5 r r1 off (λ x. omega (arith, x)) ∙ m.sp_is in
      far_runs G.machine G.env G.data_at s.input s.trace Q n 6 p m.sp here mid r1 b (omega arith) (λ x. omega (arith, x)) sp1 (omega (arith, win.top, inside)) st (λ r2 only sum.
      next_to r2 only (sum ∙ is))
  reaches Q n (location.At x) v fit e r1 off here mid st next_to =
      let f = fn G s r b ready m in
      let w = shown G (reference v.list v.offset) in
      let hx = operand_holds G ready s r start b m x (reference v.list v.offset) fit (reference_some (value s x) v e) in
      fetches G.machine G.env G.data_at s.input s.trace Q m.sp (open_stack G s r b ready m) r b m.sp_is n 6 (omega arith) (omega arith) (source_of f x) w here mid r1 off hx.0 st (λ r2 only held.
      let sum : sum32 (reg r2 (register_of 6 (source_of f x))) 0 ≡ w = omega (arith, held, hx.1) in
      next_to r2 only sum)
  reaches Q n (location.Indexed bs y size) v fit e r1 off here mid st next_to = indexes G s r b ready m Q n bs y size v fit e r1 off here mid st next_to

  -- ---- Load

  loads_at : (w : Width) (d : Target) (l : Location) (v : Reference) (x : Memory) (k : ℕ) → TargetFits (fn G s r b ready m) d → LocationFits (fn G s r b ready m) l → place G.program s l ≡ Some v → memory G.program s v.list ≡ Some x → Lying w v.offset x → element_in w x.bytes v.offset ≡ Some k → (hm : Home) → home_of (fn G s r b ready m) d ≡ hm
      → Stands G.machine.text G.env G.data_at (load (fn G s r b ready m) w hm l) start end → Comes G.machine Anything 1 (reach_cost (fn G s r b ready m) l + (1 + keep_cost hm)) (Go r start b s.input s.trace) (Matches G (gives_word d s k))
  loads_at w d l v x k fd fl ev em lies ek hm eh st =
      let f = fn G s r b ready m in
      let Q : Light → Type 0 = Matches G (gives_word d s k) in
      let rd = made_in hm in
      let above : 5 ≤ rd = made_above G s r b ready m d hm eh in
      let pos : 0 < rd = omega (arith, above) in
      let live = memory_lives G ready s r start b m v.list x em in
      let a = start_of G v.list + v.offset in
      let some = sized w in
      let is : shown G (reference v.list v.offset) ≡ a = shown_in G v.list v.offset (omega (arith, live.top, lies.high, some)) in
      let here : element_here w b a ≡ k = element_held x.bytes (start_of G v.list) x.first x.past b live.held w v.offset k ek in
      let small : k < 2 ^ 32 = element_small w b a k m.bytes here in
      let one = stands_parts G.machine.text G.env G.data_at (reach f l) (item.Plain (instr.Load (load_of w) rd (reach_base f l) (reach_offset f l)) ∷ keep hm) start end st in
      let last = one.2 in
      reaches Q (1 + keep_cost hm) l v fl ev r (off_none 5 r) start one.0 one.1 (λ r2 only sum.
      let r3 = with_reg r2 rd k in
      let off : Off rd r r3 = off_last rd r r2 r3 (off_then 5 6 r r r2 (omega arith) (omega arith) (off_none 5 r) only) (only_one rd k r2) in
      let held : reg r3 rd ≡ k = reg_is r3 rd pos ∙ with_same r2 rd k pos in
      comes_by G.machine Anything (suc (keep_cost hm)) (1 + keep_cost hm) (Go r2 one.0 b s.input s.trace) Q (omega arith)
      (loads_element G.machine s.input s.trace Q (keep_cost hm) r2 b one.0 {a0 = 0} w rd (reach_base f l) (reach_offset f l) a k last.1.0 (sum ∙ is) (aligned_for w (start_of G v.list) v.offset live.aligned lies.even)
      (λ j lo hi. live.reads j (omega (arith, lo, lies.low)) (omega (arith, hi, lies.high))) here
      (onward G.machine G.env G.data_at s.input s.trace Q {a0 = 0} (keep_cost hm) (one.0 + 4) last.0 r3 b (sym last.1.1)
      (finishes G s r b ready m unset none_left d (word k) fd small hm eh r3 off held last.0 last.2))))

  does_load : (w : Width) (d : Target) (l : Location) → slice_get (fn G s r b ready m).code s.frame.at ≡ Some (instruction.Load w d l) → Comes G.machine Anything 1 (row (fn G s r b ready m) (instruction.Load w d l)) (Go r start b s.input s.trace) (Matches G (act G.program s (instruction.Load w d l)))
  does_load w d l e =
      let R : Progress → Type 0 = λ p. Comes G.machine Anything 1 (row (fn G s r b ready m) (instruction.Load w d l)) (Go r start b s.input s.trace) (Matches G p) in
      let f = fn G s r b ready m in
      let fit = fits G s r b ready m (instruction.Load w d l) e in
      let none : R stuck = no_more G s r b ready m 1 (row (fn G s r b ready m) (instruction.Load w d l)) (Go r start b s.input s.trace) (omega arith) in
      used (place G.program s l) (loaded G.program s w d) R none (λ v ev.
      used (memory G.program s v.list) (λ x. if flat.fits w v.offset x then element_in w x.bytes v.offset >>= gives_word d s else stuck) R none (λ x ex.
      tested (flat.fits w v.offset x) (element_in w x.bytes v.offset >>= gives_word d s) R none (λ t.
      used (element_in w x.bytes v.offset) (gives_word d s) R none (λ k ek.
      loads_at w d l v x k fit.0 fit.1 ev ex (lying w v.offset x t) ek (home_of f d) refl (ready.stands s.frame.function s.frame.at (instruction.Load w d l) e)))))

  -- ---- Store

  stores_at : (w : Width) (y : Source) (l : Location) (v : Reference) (x : Memory) (k : ℕ) → SourceHolds r b m.sp y k → k < 2 ^ 32 → LocationFits (fn G s r b ready m) l → place G.program s l ≡ Some v → memory G.program s v.list ≡ Some x → Lying w v.offset x
      → Stands G.machine.text G.env G.data_at (store (fn G s r b ready m) w y l) start end → Comes G.machine Anything 1 (fetch_cost y + (reach_cost (fn G s r b ready m) l + 1)) (Go r start b s.input s.trace) (Matches G (running (with_memory G.program (next s) v.list (with_element w x.bytes v.offset k))))
  stores_at w y l v x k hy small fl ev em lies st =
      let f = fn G s r b ready m in
      let bytes = with_element w x.bytes v.offset k in
      let Q : Light → Type 0 = Matches G (running (with_memory G.program (next s) v.list bytes)) in
      let live = memory_lives G ready s r start b m v.list x em in
      let a = start_of G v.list + v.offset in
      let some = sized w in
      let is : shown G (reference v.list v.offset) ≡ a = shown_in G v.list v.offset (omega (arith, live.top, lies.high, some)) in
      let q = register_of 5 y in
      let act_item = item.Plain (instr.Store (store_of w) q (reach_base f l) (reach_offset f l)) in
      let one = stands_parts G.machine.text G.env G.data_at (fetch 5 y) (reach f l ++ (act_item ∷ [])) start end st in
      let two = stands_parts G.machine.text G.env G.data_at (reach f l) (act_item ∷ []) one.0 end one.2 in
      let last = two.2 in
      let b2 = put_here w b a k in
      let put = put_held x.bytes (start_of G v.list) x.first x.past b live.held w v.offset k small lies.low lies.high in
      let elsewhere : (j : ℕ) → (j < start_of G v.list + x.first) ⊎ (start_of G v.list + x.past ≤ j) → b2 j ≡ b j = λ j side.
      put_off w b a k j (⊎_elim (λ lt. inr (omega (arith, lt, lies.low))) (λ ge. inl (omega (arith, ge, lies.high))) side) in
      fetches G.machine G.env G.data_at s.input s.trace Q m.sp (open_stack G s r b ready m) r b m.sp_is (reach_cost (fn G s r b ready m) l + 1) 5 (omega arith) (omega arith) y k start one.0 r (off_none 5 r) hy one.1 (λ r1 only1 held1.
      let off1 : Off 5 r r1 = off_only 5 r r1 only1 in
      reaches Q 1 l v fl ev r1 off1 one.0 two.0 two.1 (λ r2 only2 sum.
      let off2 : Off 5 r r2 = off_then 5 6 r r1 r2 (omega arith) (omega arith) off1 only2 in
      let held : reg r2 q ≡ k = only_reg 6 q r1 r2 only2 (source_stays r b m.sp k y hy).0 ∙ held1 in
      stores_element G.machine s.input s.trace Q 0 r2 b two.0 {a0 = 0} w q (reach_base f l) (reach_offset f l) a k last.1.0 (sum ∙ is) (aligned_for w (start_of G v.list) v.offset live.aligned lies.even)
      (λ j lo hi. live.writes j (omega (arith, lo, lies.low)) (omega (arith, hi, lies.high))) held
      (onward G.machine G.env G.data_at s.input s.trace Q {a0 = 0} 0 (two.0 + 4) end r2 b2 (sym last.1.1 ∙ last.2)
      (comes_now G.machine Anything 0 _ Q tt
      (matched_put G ready s r start b m end v.list x bytes r2 b2 refl off2 (put_bytes w b a k small m.bytes) em put elsewhere, memory_input G.program s v.list bytes, memory_trace G.program s v.list bytes)))))

  does_store : (w : Width) (y : Operand) (l : Location) → slice_get (fn G s r b ready m).code s.frame.at ≡ Some (instruction.Store w y l) → Comes G.machine Anything 1 (row (fn G s r b ready m) (instruction.Store w y l)) (Go r start b s.input s.trace) (Matches G (act G.program s (instruction.Store w y l)))
  does_store w y l e =
      let R : Progress → Type 0 = λ p. Comes G.machine Anything 1 (row (fn G s r b ready m) (instruction.Store w y l)) (Go r start b s.input s.trace) (Matches G p) in
      let f = fn G s r b ready m in
      let fit = fits G s r b ready m (instruction.Store w y l) e in
      let none : R stuck = no_more G s r b ready m 1 (row (fn G s r b ready m) (instruction.Store w y l)) (Go r start b s.input s.trace) (omega arith) in
      used (word_at s y) (λ k. place G.program s l >>= stored G.program s w k) R none (λ k ek.
      let hy = operand_holds G ready s r start b m y (word k) fit.0 (word_some (value s y) k ek) in
      used (place G.program s l) (stored G.program s w k) R none (λ v ev.
      used (memory G.program s v.list) (λ x. if flat.fits w v.offset x then running (with_memory G.program (next s) v.list (with_element w x.bytes v.offset k)) else stuck) R none (λ x ex.
      tested (flat.fits w v.offset x) (running (with_memory G.program (next s) v.list (with_element w x.bytes v.offset k))) R none (λ t.
      stores_at w (source_of f y) l v x k hy.0 hy.1 fit.1 ev ex (lying w v.offset x t) (ready.stands s.frame.function s.frame.at (instruction.Store w y l) e)))))

-- ---- as laws

pub load_follows : (w : Width) (d : Target) (l : Location) → Follows (instruction.Load w d l)
load_follows w d l G s r b ready m under e room = does_load G s r b ready m w d l e

pub store_follows : (w : Width) (y : Operand) (l : Location) → Follows (instruction.Store w y l)
store_follows w y l G s r b ready m under e room = does_store G s r b ready m w y l e
