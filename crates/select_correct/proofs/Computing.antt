-- The machine follows flat code: operations, and references to elements.
use Rattle.std.proofs.Common.{◌≡◌, ℕ, suc, ◌+◌, ◌%◌, ◌^◌, ◌<◌, ◌≤◌, ◌++◌, Some, refl, sym, ap, ◌∙◌, subst, arith}
use Rattle.std.specs.Prelude.{slice_get}
use Rattle.rv32.specs.declared.instr.ImmediateOp.TheVariants as immediate_op
use Rattle.select_exec.specs.Standing.{Stands}
use Rattle.frames_code.specs.declared.code.Operand.{Operand}
use Rattle.frames_code.specs.declared.code.Operand.TheVariants as operand
use Rattle.frames_code.specs.declared.code.Target.{Target}
use Rattle.frames_code.specs.declared.code.Operation.{Operation}
use Rattle.frames_code.specs.declared.code.Instruction.TheVariants as instruction
use Rattle.frames_code.specs.Run.{word, unset, State, Progress, stuck, ended, value, word_at, gives, gives_word, act, ◌>>=◌}
use Rattle.frames_code.specs.Run as flat
use Rattle.frames_code.specs.Sound.{TargetFits}
use Rattle.select_exec.specs.Light.{Light, Go, Done, with_reg, Comes}
use Rattle.select_exec.proofs.Words.{reg_is}
use Rattle.select_exec.proofs.Steps.{comes_now, comes_by, on_immediate, on_exit}
use Rattle.select_exec.proofs.Standing.{stands_parts}
use Rattle.select.specs.declared.places.Source.{Source}
use Rattle.select.specs.declared.places.Home.{Home}
use Rattle.select.specs.Selected.{source_of, home_of, fetch, register_of, made_in, keep, combine, compute}
use Rattle.select_correct.specs.Matches.{Ground, Matched, Matches, Ready, address, shown}
use Rattle.select_correct.specs.Costs.{fetch_cost, second_cost, ending_cost, compute_cost, keep_cost, row}
use Rattle.select_correct.specs.Laws.{Anything, Follows}
use Rattle.select_correct.proofs.Registers.{off_none, off_only}
use Rattle.select_correct.proofs.Places.{SourceHolds, source_stays, fetches}
use Rattle.select_correct.proofs.Frames.{operand_holds}
use Rattle.select_correct.proofs.Operations.{result_small}
use Rattle.select_correct.proofs.Combining.{combines}
use Rattle.select_correct.proofs.Forms.{used, word_some, fn, open_stack, fits, no_more, made_above, finishes}

module _ (G : Ground) (s : State) (r b : ℕ → ℕ) (ready : Ready G) (m : Matched G s r (address G s.frame.function s.frame.at) b) where
  abbrev start : ℕ
  start = address G s.frame.function s.frame.at

  abbrev end : ℕ
  end = address G s.frame.function (s.frame.at + 1)

  none_left : (k : ℕ) (v : flat.Value) → unset k ≡ Some v → s.arguments k ≡ Some v
  none_left k v e = cc

  -- ---- Compute

  -- a value that is shown as the result of an operation
  pub shown_at : (o : Operation) (d : Target) (v : flat.Value) (x y : Source) (a c : ℕ) → shown G v ≡ flat.operate o a c
      → TargetFits (fn G s r b ready m) d → a < 2 ^ 32 → c < 2 ^ 32
      → SourceHolds r b m.sp x a → SourceHolds r b m.sp y c → (hm : Home) → home_of (fn G s r b ready m) d ≡ hm
      → Stands G.machine.text G.env G.data_at (compute o hm x y) start end → Comes G.machine Anything 1 (compute_cost o hm x y) (Go r start b s.input s.trace) (Matches G (gives d s v))
  shown_at o d v x y a c is fit ha hc hx hy hm eh st =
      let Q : Light → Type 0 = Matches G (gives d s v) in
      let rd = made_in hm in
      let above : 5 ≤ rd = made_above G s r b ready m d hm eh in
      let pos : 0 < rd = omega (arith, above) in
      let one = stands_parts G.machine.text G.env G.data_at (fetch 5 x) (combine o rd (register_of 5 x) y ++ keep hm) start end st in
      let two = stands_parts G.machine.text G.env G.data_at (combine o rd (register_of 5 x) y) (keep hm) one.0 end one.2 in
      let count = second_cost o rd (register_of 5 x) y + suc (ending_cost o + keep_cost hm) in
      comes_by G.machine Anything (fetch_cost x + count) (compute_cost o hm x y) (Go r start b s.input s.trace) Q (omega arith)
      (fetches G.machine G.env G.data_at s.input s.trace Q m.sp (open_stack G s r b ready m) r b m.sp_is count 5 (omega arith) (omega arith) x a start one.0 r (off_none 5 r) hx one.1 (λ r2 only2 held2.
      combines G.machine G.env G.data_at s.input s.trace Q m.sp (open_stack G s r b ready m) r b m.sp_is rd pos (keep_cost hm) o (register_of 5 x) a y c one.0 two.0 r2 ha hc (off_only 5 r r2 only2) held2 (source_stays r b m.sp a x hx).0 hy two.1 (λ r3 off3 held.
      finishes G s r b ready m unset none_left d v fit (subst (λ z. z < 2 ^ 32) (sym is) (result_small o a c ha hc)) hm eh r3 off3 (reg_is r3 rd pos ∙ (held ∙ sym is)) two.0 two.2)))

  does_compute : (o : Operation) (d : Target) (x y : Operand) → slice_get (fn G s r b ready m).code s.frame.at ≡ Some (instruction.Compute o d x y)
      → Comes G.machine Anything 1 (row (fn G s r b ready m) (instruction.Compute o d x y)) (Go r start b s.input s.trace) (Matches G (act G.program s (instruction.Compute o d x y)))
  does_compute o d x y e =
      let R : Progress → Type 0 = λ p. Comes G.machine Anything 1 (row (fn G s r b ready m) (instruction.Compute o d x y)) (Go r start b s.input s.trace) (Matches G p) in
      let f = fn G s r b ready m in
      let fit = fits G s r b ready m (instruction.Compute o d x y) e in
      let none : R stuck = no_more G s r b ready m 1 (row (fn G s r b ready m) (instruction.Compute o d x y)) (Go r start b s.input s.trace) (omega arith) in
      used (word_at s x) (λ a. word_at s y >>= λ c. gives_word d s (flat.operate o a c)) R none (λ a ea.
      used (word_at s y) (λ c. gives_word d s (flat.operate o a c)) R none (λ c ec.
      let hx = operand_holds G ready s r start b m x (word a) fit.1 (word_some (value s x) a ea) in
      let hy = operand_holds G ready s r start b m y (word c) fit.2 (word_some (value s y) c ec) in
      shown_at o d (word (flat.operate o a c)) (source_of f x) (source_of f y) a c refl
      fit.0 hx.1 hy.1 hx.0 hy.0 (home_of f d) refl (ready.stands s.frame.function s.frame.at (instruction.Compute o d x y) e)))

  -- ---- Exit

  does_exit : slice_get (fn G s r b ready m).code s.frame.at ≡ Some instruction.Exit → Comes G.machine Anything 1 2 (Go r start b s.input s.trace) (Matches G (act G.program s instruction.Exit))
  does_exit e =
      let R : Progress → Type 0 = λ p. Comes G.machine Anything 1 2 (Go r start b s.input s.trace) (Matches G p) in
      let st = ready.stands s.frame.function s.frame.at instruction.Exit e in
      used (word_at s (operand.Temporary 0)) (λ v. ended (v % 2 ^ 8) s.input s.trace) R (no_more G s r b ready m 1 2 (Go r start b s.input s.trace) (omega arith)) (λ v ev.
      let Q : Light → Type 0 = Matches G (ended (v % 2 ^ 8) s.input s.trace) in
      let first = word_some (value s (operand.Temporary 0)) v ev in
      let held : r 10 ≡ v = (m.temporaries 0 (word v) first).2 in
      let status : r 10 % 2 ^ 8 ≡ v % 2 ^ 8 = ap (λ x. x % 2 ^ 8) held in
      on_immediate G.machine Anything Q 1 r start b s.input s.trace tt immediate_op.Add 17 0 93 93 st.1.0 refl
      (on_exit G.machine Anything Q 0 (with_reg r 17 93) (start + 4) b s.input s.trace tt (v % 2 ^ 8) (ap G.machine.text (sym st.1.1) ∙ st.2.1.0) refl status
      (comes_now G.machine Anything 0 (Done (v % 2 ^ 8) s.trace) Q tt (refl, refl))))

-- ---- as laws

pub compute_follows : (o : Operation) (d : Target) (x y : Operand) → Follows (instruction.Compute o d x y)
compute_follows o d x y G s r b ready m under e room = does_compute G s r b ready m o d x y e

pub exit_follows : Follows instruction.Exit
exit_follows G s r b ready m under e room = does_exit G s r b ready m e
