-- The machine follows flat code: references advanced by a number of elements.
use Rattle.std.proofs.Common.{◌≡◌, ◌≢◌, ℕ, suc, ◌+◌, ◌*◌, ◌%◌, ◌^◌, ◌<◌, ◌≤◌, Bool, true, false, ◌∷◌, ◌++◌, Some, refl, sym, ap, ◌∙◌, subst, arith, eqb}
use Rattle.std.specs.Prelude.{if◌then◌else◌, ◌==◌, slice_get}
use Rattle.rv32.specs.declared.instr.RegisterOp.TheVariants as register_op
use Rattle.rv32.specs.Arithmetic.{operate_of}
use Rattle.select_exec.specs.Standing.{Stands}
use Rattle.frames_code.specs.declared.code.Operand.{Operand}
use Rattle.frames_code.specs.declared.code.Target.{Target}
use Rattle.frames_code.specs.declared.code.Operation.TheVariants as operation
use Rattle.frames_code.specs.declared.code.Instruction.TheVariants as instruction
use Rattle.frames_code.specs.Sound.{TargetFits}
use Rattle.frames_code.specs.Run.{Value, word, reference, reference_in, unset, State, Progress, stuck, value, word_at, gives, act, ◌>>=◌}
use Rattle.select_exec.specs.Light.{Light, Go, reg, with_reg, Comes}
use Rattle.select_exec.proofs.Bridge.{bool_cases}
use Rattle.select_exec.proofs.Words.{reg_is, with_same}
use Rattle.select_exec.proofs.Steps.{comes_by, on_op}
use Rattle.select_exec.proofs.Standing.{stands_parts}
use Rattle.select.specs.declared.places.Source.{Source}
use Rattle.select.specs.declared.places.Source.TheVariants as source
use Rattle.select.specs.declared.places.Home.{Home}
use Rattle.select.specs.Selected.{source_of, home_of, fetch, register_of, made_in, keep, operate_on, scale, scaled_in, move, counted, element}
use Rattle.select_correct.specs.Matches.{Ground, Matched, Matches, Ready, address, shown}
use Rattle.select_correct.specs.Costs.{keep_cost, scale_cost, move_cost, counted_cost, element_cost, row}
use Rattle.select_correct.specs.Laws.{Anything, Follows}
use Rattle.select_correct.proofs.Registers.{off_last, only_one}
use Rattle.select_correct.proofs.Places.{SourceHolds, source_stays, onward, fetches_two}
use Rattle.select_correct.proofs.Frames.{operand_holds}
use Rattle.select_correct.proofs.Forms.{used, word_some, fn, open_stack, fits, no_more, made_above, finishes, move_some, moves_at}
use Rattle.select_correct.proofs.Scaling.{scaled_off, scaled_reg, scales}
use Rattle.select_correct.proofs.Indexing.{shown_plus, shown_small}
use Rattle.select_correct.proofs.References.{reference_some}
use Rattle.select_correct.proofs.Computing.{shown_at}

below_word : (v : ℕ) → v % 2 ^ 32 < 2 ^ 32
below_word v = omega arith

either_some : (t : Bool) (a b : ℕ) → 1 ≤ a → 1 ≤ b → 1 ≤ (if t then a else b)
either_some true a b p q = p
either_some false a b p q = q

-- an element has an item
element_some : (d : Home) (x y : Source) (size : ℕ) → 1 ≤ element_cost d x y size
element_some d x (source.Register q) size = either_some (q == 0) (move_cost d x) (counted_cost d x (source.Register q) size) (move_some d x) (omega arith)
element_some d x (source.Frame o) size = omega arith
element_some d x (source.Constant v) size = omega arith

module _ (G : Ground) (s : State) (r b : ℕ → ℕ) (ready : Ready G) (m : Matched G s r (address G s.frame.function s.frame.at) b) where
  abbrev start : ℕ
  start = address G s.frame.function s.frame.at

  abbrev end : ℕ
  end = address G s.frame.function (s.frame.at + 1)

  none_left : (k : ℕ) (v : Value) → unset k ≡ Some v → s.arguments k ≡ Some v
  none_left k v e = cc

  second_free : (y : Source) (w : ℕ) → SourceHolds r b m.sp y w → register_of 6 y ≢ 7
  second_free (source.Register q) w p = p.3
  second_free (source.Frame o) w p = λ e. omega (arith, e)
  second_free (source.Constant v) w p = λ e. omega (arith, e)

  counted_at : (d : Target) (x y : Source) (l o k size : ℕ) → TargetFits (fn G s r b ready m) d → size < 2 ^ 32 → k < 2 ^ 32
      → SourceHolds r b m.sp x (shown G (reference l o)) → SourceHolds r b m.sp y k → (hm : Home) → home_of (fn G s r b ready m) d ≡ hm
      → Stands G.machine.text G.env G.data_at (counted hm x y size) start end
      → Comes G.machine Anything 1 (counted_cost hm x y size) (Go r start b s.input s.trace) (Matches G (gives d s (reference l (o + k * size))))
  counted_at d x y l o k size fit ss sk hx hy hm eh st =
      let v = reference l (o + k * size) in
      let w = shown G v in
      let a = shown G (reference l o) in
      let Q : Light → Type 0 = Matches G (gives d s v) in
      let rd = made_in hm in
      let above : 5 ≤ rd = made_above G s r b ready m d hm eh in
      let pos : 0 < rd = omega (arith, above) in
      let p = register_of 5 x in
      let q = register_of 6 y in
      let add = operate_on register_op.Add rd p (scaled_in q size) in
      let one = stands_parts G.machine.text G.env G.data_at (fetch 5 x) (fetch 6 y ++ (scale q size ++ (add ∷ keep hm))) start end st in
      let two = stands_parts G.machine.text G.env G.data_at (fetch 6 y) (scale q size ++ (add ∷ keep hm)) one.0 end one.2 in
      let three = stands_parts G.machine.text G.env G.data_at (scale q size) (add ∷ keep hm) two.0 end two.2 in
      let last = three.2 in
      fetches_two G.machine G.env G.data_at s.input s.trace Q m.sp (open_stack G s r b ready m) r b m.sp_is (scale_cost size + (1 + keep_cost hm)) x y a k start one.0 two.0 hx hy one.1 two.1 (λ r2 off e5 e6.
      scales G.machine G.env G.data_at s.input s.trace Q r2 b (1 + keep_cost hm) q k size two.0 three.0 (second_free y k hy) sk ss e6 three.1 (λ r3 sc held.
      let stays = source_stays r b m.sp a x hx in
      let left : reg r3 p ≡ a = scaled_reg p r2 r3 sc stays.0 stays.1 ∙ e5 in
      let is : operate_of register_op.Add (reg r3 p) (reg r3 (scaled_in q size)) ≡ w = ap (λ z. (z + reg r3 (scaled_in q size)) % 2 ^ 32) left ∙ (ap (λ z. (a + z) % 2 ^ 32) held ∙ sym (shown_plus G l o (k * size))) in
      let r4 = with_reg r3 rd w in
      let done : Comes G.machine Anything 0 (keep_cost hm) (Go r4 last.0 b s.input s.trace) Q =
      finishes G s r b ready m unset none_left d v fit (shown_small G l (o + k * size)) hm eh r4 (off_last rd r r3 r4 (scaled_off r r2 r3 off sc) (only_one rd w r3)) (reg_is r4 rd pos ∙ with_same r3 rd w pos) last.0 last.2 in
      let c : Comes G.machine Anything 0 (keep_cost hm) (Go r4 (three.0 + 4) b s.input s.trace) Q = onward G.machine G.env G.data_at s.input s.trace Q {a0 = 0} (keep_cost hm) (three.0 + 4) last.0 r4 b (sym last.1.1) done in
      comes_by G.machine Anything (suc (keep_cost hm)) (1 + keep_cost hm) (Go r3 three.0 b s.input s.trace) Q (omega arith)
      (on_op G.machine Anything Q (keep_cost hm) r3 three.0 b s.input s.trace tt register_op.Add rd p (scaled_in q size) last.1.0
      (subst (λ z. Comes G.machine Anything 0 (keep_cost hm) (Go (with_reg r3 rd z) (three.0 + 4) b s.input s.trace) Q) (sym is) c))))

  -- no element more
  moved_at : (d : Target) (x : Source) (l o k size : ℕ) → TargetFits (fn G s r b ready m) d → k ≡ 0
      → SourceHolds r b m.sp x (shown G (reference l o)) → (hm : Home) → home_of (fn G s r b ready m) d ≡ hm
      → Stands G.machine.text G.env G.data_at (move hm x) start end → Comes G.machine Anything 1 (move_cost hm x) (Go r start b s.input s.trace) (Matches G (gives d s (reference l (o + k * size))))
  moved_at d x l o k size fit none hx hm eh st =
      let same : o + k * size ≡ o = ap (λ z. o + z * size) none ∙ omega arith in
      subst (λ z. Comes G.machine Anything 1 (move_cost hm x) (Go r start b s.input s.trace) (Matches G (gives d s (reference l z)))) (sym same)
      (moves_at G s r b ready m unset none_left d (reference l o) x fit (shown_small G l o) hx hm eh st)

  elements_at : (d : Target) (x y : Source) (l o k size : ℕ) → TargetFits (fn G s r b ready m) d → size < 2 ^ 32 → k < 2 ^ 32
      → SourceHolds r b m.sp x (shown G (reference l o)) → SourceHolds r b m.sp y k → (hm : Home) → home_of (fn G s r b ready m) d ≡ hm
      → Stands G.machine.text G.env G.data_at (element hm x y size) start end
      → Comes G.machine Anything 1 (element_cost hm x y size) (Go r start b s.input s.trace) (Matches G (gives d s (reference l (o + k * size))))
  elements_at d x (source.Register q) l o k size fit ss sk hx hy hm eh st =
      let Q : Light → Type 0 = Matches G (gives d s (reference l (o + k * size))) in
      bool_cases (eqb q 0)
      (λ t.
      let none : k ≡ 0 = sym hy.0 ∙ rw t refl in
      let moved : Stands G.machine.text G.env G.data_at (move hm x) start end = rw t at st in
      let count : element_cost hm x (source.Register q) size ≡ move_cost hm x = rw t refl in
      subst (λ n. Comes G.machine Anything 1 n (Go r start b s.input s.trace) Q) (sym count) (moved_at d x l o k size fit none hx hm eh moved))
      (λ t.
      let some : Stands G.machine.text G.env G.data_at (counted hm x (source.Register q) size) start end = rw t at st in
      let count : element_cost hm x (source.Register q) size ≡ counted_cost hm x (source.Register q) size = rw t refl in
      subst (λ n. Comes G.machine Anything 1 n (Go r start b s.input s.trace) Q) (sym count) (counted_at d x (source.Register q) l o k size fit ss sk hx hy hm eh some))
  elements_at d x (source.Frame p) l o k size fit ss sk hx hy hm eh st = counted_at d x (source.Frame p) l o k size fit ss sk hx hy hm eh st
  elements_at d x (source.Constant n) l o k size fit ss sk hx hy hm eh st =
      let c = n * size % 2 ^ 32 in
      let a = shown G (reference l o) in
      let is : shown G (reference l (o + k * size)) ≡ (a + c) % 2 ^ 32 = ap (λ z. shown G (reference l (o + z * size))) (sym hy.0) ∙ shown_plus G l o (n * size) in
      shown_at G s r b ready m (operation.Machine register_op.Add) d (reference l (o + k * size)) x (source.Constant c)
      a c is fit (shown_small G l o) (below_word (n * size)) hx (refl, below_word (n * size)) hm eh st

  does_element : (d : Target) (x y : Operand) (size : ℕ) → slice_get (fn G s r b ready m).code s.frame.at ≡ Some (instruction.Element d x y size)
      → Comes G.machine Anything 1 (row (fn G s r b ready m) (instruction.Element d x y size)) (Go r start b s.input s.trace) (Matches G (act G.program s (instruction.Element d x y size)))
  does_element d x y size e =
      let R : Progress → Type 0 = λ p. Comes G.machine Anything 1 (row (fn G s r b ready m) (instruction.Element d x y size)) (Go r start b s.input s.trace) (Matches G p) in
      let f = fn G s r b ready m in
      let fit = fits G s r b ready m (instruction.Element d x y size) e in
      let none : R stuck = no_more G s r b ready m 1 (row (fn G s r b ready m) (instruction.Element d x y size)) (Go r start b s.input s.trace) (element_some (home_of f d) (source_of f x) (source_of f y) size) in
      used (reference_in (value s x)) (λ v. word_at s y >>= λ k. gives d s (reference v.list (v.offset + k * size))) R none (λ v ev.
      used (word_at s y) (λ k. gives d s (reference v.list (v.offset + k * size))) R none (λ k ek.
      let hx = operand_holds G ready s r start b m x (reference v.list v.offset) fit.1 (reference_some (value s x) v ev) in
      let hy = operand_holds G ready s r start b m y (word k) fit.2 (word_some (value s y) k ek) in
      elements_at d (source_of f x) (source_of f y) v.list v.offset k size fit.0 fit.3 hy.1 hx.0 hy.0 (home_of f d) refl (ready.stands s.frame.function s.frame.at (instruction.Element d x y size) e)))

-- ---- as laws

pub element_follows : (d : Target) (x y : Operand) (size : ℕ) → Follows (instruction.Element d x y size)
element_follows d x y size G s r b ready m under e room = does_element G s r b ready m d x y size e
