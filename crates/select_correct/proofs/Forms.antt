-- The machine follows flat code: the forms that read operands and set a target, and those that only go on elsewhere.
use Rattle.std.proofs.Common.{◌≡◌, ℕ, zero, suc, ◌+◌, ◌-◌, ◌%◌, ◌^◌, ◌<◌, ◌≤◌, List, [], ◌∷◌, ◌++◌, length, Option, Some, None, Bool, true, false, refl, sym, ap, ◌∙◌, subst, arith}
use Rattle.std.specs.Prelude.{if◌then◌else◌, slice_get, ◌==◌, nat_lt}
use Rattle.std.proofs.lemmas.Bool.{and_parts, ltb-true}
use Rattle.std.proofs.lemmas.Bool.Decides.{nat_tests}
use Rattle.rv32.specs.declared.instr.Test.{Test}
use Rattle.rv32.specs.Arithmetic.{compare_of}
use Rattle.asm.specs.declared.item.Item.TheVariants as item
use Rattle.select_exec.specs.Standing.{Stands}
use Rattle.frames_code.specs.declared.code.Operand.{Operand}
use Rattle.frames_code.specs.declared.code.Operand.TheVariants as operand
use Rattle.frames_code.specs.declared.code.Target.{Target}
use Rattle.frames_code.specs.declared.code.Target.TheVariants as target
use Rattle.frames_code.specs.declared.code.Conversion.{Conversion}
use Rattle.frames_code.specs.declared.code.Conversion.TheVariants as conversion
use Rattle.frames_code.specs.declared.code.Instruction.{Instruction}
use Rattle.frames_code.specs.declared.code.Instruction.TheVariants as instruction
use Rattle.frames_code.specs.Code.{Function}
use Rattle.frames_code.specs.Sound.{InstructionFits, TargetFits, OperandFits}
use Rattle.frames_code.specs.Run.{Value, word, reference, Values, unset, State, Progress, running, stuck, value, word_in, word_at, set, next, past, goes_to, gives_word, converted, function_at, act, ◌>>=◌}
use Rattle.select_exec.specs.Light.{Light, Go, reg, Comes}
use Rattle.select_exec.proofs.Bridge.{bool_cases}
use Rattle.select_exec.proofs.Words.{reg_is}
use Rattle.select_exec.proofs.Steps.{comes_now, comes_by, comes_some}
use Rattle.select_exec.proofs.ItemSteps.{on_jump_to, on_either_branch}
use Rattle.select_exec.proofs.Standing.{stands_parts, after_items}
use Rattle.select.specs.declared.places.Source.{Source}
use Rattle.select.specs.declared.places.Source.TheVariants as source
use Rattle.select.specs.declared.places.Home.{Home}
use Rattle.select.specs.declared.places.Home.TheVariants as home
use Rattle.select.specs.Selected.{source_of, home_of, fetch, register_of, move, made_in, keep, store_word, narrow, convert, items_of, is_same, is_nothing_if, are_nothing, skips_nothing}
use Rattle.select.proofs.Shortened.{nothing_shortened}
use Rattle.select_correct.specs.Matches.{Ground, Matched, Matches, Ready, address, first_of, shown}
use Rattle.select_correct.specs.Costs.{least, least_at, word_cost, fetch_cost, keep_cost, into_cost, move_cost, narrow_cost, row, step_cost, most_at}
use Rattle.select_correct.specs.Laws.{Anything, Follows}
use Rattle.select_correct.proofs.Registers.{Off, off_none, off_only, off_then, off_last, off_sp}
use Rattle.select_correct.proofs.Places.{Open, SourceHolds, source_stays, stores_word, fetches, fetches_two, intos}
use Rattle.select_correct.proofs.Fits.{function_fits}
use Rattle.select_correct.proofs.Frames.{moved, operand_holds, set_register, set_word, home_lies, home_register}
use Rattle.select_correct.proofs.Results.{narrows, converted_small}

pub used : {A : Type 0} (o : Option A) (go : A → Progress) (R : Progress → Type 0) → R stuck → ((x : A) → o ≡ Some x → R (go x)) → R (o >>= go)
used None go R none some = none
used (Some x) go R none some = some x refl

pub word_some : (o : Option Value) (a : ℕ) → word_in o ≡ Some a → o ≡ Some (word a)
word_some None a e = cc
word_some (Some (word w)) a e = let same : w ≡ a = cc in ap (λ x. Some (word x)) same
word_some (Some (reference l o)) a e = cc

narrow_some : (c : Conversion) → 1 ≤ narrow_cost c
narrow_some conversion.ToByte = omega arith
narrow_some conversion.ToSignedByte = omega arith
narrow_some conversion.ToHalf = omega arith
narrow_some conversion.ToSignedHalf = omega arith
narrow_some conversion.ToTruth = omega arith

-- a constant takes an instruction
one_at_least : (t u : Bool) → 1 ≤ (if t then 1 else (if u then 1 else 2))
one_at_least true u = omega arith
one_at_least false true = omega arith
one_at_least false false = omega arith

-- a move has an item
pub move_some : (hm : Home) (o : Source) → 1 ≤ move_cost hm o
move_some (home.Register q) (source.Register r) = omega arith
move_some (home.Register q) (source.Frame p) = omega arith
move_some (home.Register q) (source.Constant v) = one_at_least (nat_lt ((v + 0x800) % 2 ^ 32) 0x1000) (v % 0x1000 == 0)
move_some (home.Frame p) o = omega arith

pub some_at : (xs : List Instruction) (k : ℕ) → k < length xs → (x : Instruction) × (slice_get xs k ≡ Some x)
some_at [] k lt = absurd (omega (arith, lt))
some_at (x ∷ xs) zero lt = (x, refl)
some_at (x ∷ xs) (suc k) lt = some_at xs k (omega (arith, lt))

pub set_input : (d : Target) (v : Value) (s : State) → s.input ≡ (set d v s).input
set_input (target.Temporary k) v s = refl
set_input (target.Cell c) v s = refl

pub set_trace : (d : Target) (v : Value) (s : State) → s.trace ≡ (set d v s).trace
set_trace (target.Temporary k) v s = refl
set_trace (target.Cell c) v s = refl

module _ (G : Ground) (s : State) (r b : ℕ → ℕ) (ready : Ready G) (m : Matched G s r (address G s.frame.function s.frame.at) b) where
  abbrev here : ℕ
  here = address G s.frame.function s.frame.at

  abbrev last : ℕ
  last = address G s.frame.function (s.frame.at + 1)

  abbrev pub fn : Function
  fn = function_at G.program s.frame.function

  pub open_stack : Open G.machine m.sp
  open_stack = record {
    reads = λ a lo hi. ready.stack_read a (omega (arith, lo, m.low)) hi;
    writes = λ a lo hi. ready.stack_written a (omega (arith, lo, m.low)) hi;
  }

  pub fits : (x : Instruction) → slice_get fn.code s.frame.at ≡ Some x → InstructionFits (length G.program.functions) fn x
  fits x e = (function_fits G.program ready.sound s.frame.function).each s.frame.at x e

  -- at the next instruction
  abbrev then_at : Values → State
  then_at arguments = record s { frame = record s.frame { at = s.frame.at + 1 }; arguments = arguments }

  -- a stuck run promises nothing
  pub no_more : (least most : ℕ) (x : Light) → least ≤ most → Comes G.machine Anything least most x (Matches G stuck)
  no_more least most x le = record { j = least; some = omega arith; within = le; kept = λ k lk. tt; good = tt }

  pub made_above : (d : Target) (hm : Home) → home_of fn d ≡ hm → 5 ≤ made_in hm
  made_above d (home.Register q) eh = omega (arith, home_register G ready s r here b m d q eh)
  made_above d (home.Frame o) eh = omega arith

  -- a result goes where its target lives
  pub finishes : (arguments : Values) → ((k : ℕ) (v : Value) → arguments k ≡ Some v → s.arguments k ≡ Some v) → (d : Target) (v : Value) → TargetFits fn d → shown G v < 2 ^ 32 → (hm : Home) → home_of fn d ≡ hm → (r2 : ℕ → ℕ) → Off (made_in hm) r r2 → reg r2 (made_in hm) ≡ shown G v → (at1 : ℕ)
      → Stands G.machine.text G.env G.data_at (keep hm) at1 last → Comes G.machine Anything 0 (keep_cost hm) (Go r2 at1 b s.input s.trace) (Matches G (running (set d v (then_at arguments))))
  finishes arguments sub d v fit small (home.Register q) eh r2 o e at1 st =
      let Q : Light → Type 0 = Matches G (running (set d v (then_at arguments))) in
      let above : 8 ≤ q = home_register G ready s r here b m d q eh in
      let held : r2 q ≡ shown G v = sym (reg_is r2 q (omega (arith, above))) ∙ e in
      comes_now G.machine Anything 0 (Go r2 at1 b s.input s.trace) Q tt
      (set_register G ready s r here b m (s.frame.at + 1) at1 arguments sub v small st r2 d q eh fit o held, set_input d v (then_at arguments), set_trace d v (then_at arguments))
  finishes arguments sub d v fit small (home.Frame o) eh r2 off e at1 st =
      let Q : Light → Type 0 = Matches G (running (set d v (then_at arguments))) in
      let sp2 : r2 2 ≡ m.sp = off_sp 5 r r2 off (λ x. omega (arith, x)) ∙ m.sp_is in
      comes_by G.machine Anything (word_cost o + 0) (word_cost o) (Go r2 at1 b s.input s.trace) Q (omega arith)
      (comes_some G.machine Anything (word_cost o + 0) (Go r2 at1 b s.input s.trace) Q
      (stores_word G.machine G.env G.data_at s.input s.trace Q {a0 = 0} 0 5 o m.sp (shown G v) at1 last r2 b open_stack (λ x. omega (arith, x)) sp2 (home_lies G ready s r here b m d o eh fit) e st (λ r3 only.
      comes_now G.machine Anything 0 _ Q tt
      (set_word G ready s r here b m (s.frame.at + 1) last arguments sub v small refl r3 d o eh fit (off_then 5 7 r r2 r3 (omega arith) (omega arith) off only), set_input d v (then_at arguments), set_trace d v (then_at arguments)))))

  none_left : (k : ℕ) (v : Value) → unset k ≡ Some v → s.arguments k ≡ Some v
  none_left k v e = cc

  -- ---- Nothing, Jump, Branch

  pub does_nothing : slice_get fn.code s.frame.at ≡ Some instruction.Nothing → Comes G.machine Anything 0 0 (Go r here b s.input s.trace) (Matches G (act G.program s instruction.Nothing))
  does_nothing e =
      let Q : Light → Type 0 = Matches G (running (past s)) in
      comes_now G.machine Anything 0 (Go r here b s.input s.trace) Q tt
      (moved G ready s r here b m (s.frame.at + 1) here s.arguments r (off_none 5 r) (ready.stands s.frame.function s.frame.at instruction.Nothing e) (λ k v ek. ek), refl, refl)

  there_aligned : (to : ℕ) → to < length fn.code → address G s.frame.function to % 4 ≡ 0
  there_aligned to lt = let x = some_at fn.code to lt in (ready.aligned s.frame.function to x.0 x.1).0

  -- an instruction that needs no code is where the next one is
  stays_by : (k : ℕ) (o : Option Instruction) → slice_get fn.code k ≡ o → is_nothing_if o ≡ true → address G s.frame.function k ≡ address G s.frame.function (k + 1)
  stays_by k None e t = cc
  stays_by k (Some x) e t =
      let place = first_of G.program s.frame.function in
      subst (λ y. Stands G.machine.text G.env G.data_at (items_of fn place y) (address G s.frame.function k) (address G s.frame.function (k + 1))) (nothing_shortened fn.code k x t) (ready.stands s.frame.function k x e)

  stays_at : (k : ℕ) → is_nothing_if (slice_get fn.code k) ≡ true → address G s.frame.function k ≡ address G s.frame.function (k + 1)
  stays_at k e = stays_by k (slice_get fn.code k) refl e

  all_stay : (k n : ℕ) → are_nothing fn.code k n ≡ true → address G s.frame.function k ≡ address G s.frame.function (k + n)
  all_stay k zero e = let same : k ≡ k + 0 = omega arith in ap (address G s.frame.function) same
  all_stay k (suc n) e =
      let both = and_parts (is_nothing_if (slice_get fn.code k)) (are_nothing fn.code (k + 1) n) e in
      let sum : k + 1 + n ≡ k + suc n = grind arith in
      stays_at k both.0 ∙ (all_stay (k + 1) n both.1 ∙ ap (address G s.frame.function) sum)

  jumps_at : (to : ℕ) → to < length fn.code → (t : Bool) → skips_nothing fn.code s.frame.at to ≡ t → Stands G.machine.text G.env G.data_at (items_of fn (first_of G.program s.frame.function) (if t then instruction.Nothing else instruction.Jump to)) here last
      → Comes G.machine Anything (least (if t then instruction.Nothing else instruction.Jump to)) (step_cost G.program fn (if t then instruction.Nothing else instruction.Jump to)) (Go r here b s.input s.trace) (Matches G (running (goes_to s to)))
  jumps_at to lt true et st =
      let Q : Light → Type 0 = Matches G (running (goes_to s to)) in
      let both = and_parts (nat_lt s.frame.at to) (are_nothing fn.code (s.frame.at + 1) (to - (s.frame.at + 1))) et in
      let lt : s.frame.at < to = ltb-true s.frame.at to both.0 in
      let is : s.frame.at + 1 + (to - (s.frame.at + 1)) ≡ to = omega (arith, lt) in
      let there : here ≡ address G s.frame.function to = st ∙ (all_stay (s.frame.at + 1) (to - (s.frame.at + 1)) both.1 ∙ ap (address G s.frame.function) is) in
      comes_now G.machine Anything 0 (Go r here b s.input s.trace) Q tt (moved G ready s r here b m to here unset r (off_none 5 r) there none_left, refl, refl)
  jumps_at to lt false et st =
      let Q : Light → Type 0 = Matches G (running (goes_to s to)) in
      let there = address G s.frame.function to in
      on_jump_to G.machine Anything Q 0 r here b s.input s.trace tt there st.0 (there_aligned to lt) st.1
      (comes_now G.machine Anything 0 (Go r there b s.input s.trace) Q tt
      (moved G ready s r here b m to there unset r (off_none 5 r) refl none_left, refl, refl))

  pub does_jump : (to : ℕ) → slice_get fn.code s.frame.at ≡ Some (instruction.Jump to) → Comes G.machine Anything (least_at fn s.frame.at (instruction.Jump to)) (most_at G.program fn s.frame.at (instruction.Jump to)) (Go r here b s.input s.trace) (Matches G (act G.program s (instruction.Jump to)))
  does_jump to e = jumps_at to (fits (instruction.Jump to) e) (skips_nothing fn.code s.frame.at to) refl (ready.stands s.frame.function s.frame.at (instruction.Jump to) e)

  either_way : (t : Bool) (to next_at : ℕ) (r2 : ℕ → ℕ) → Off 5 r r2 → next_at ≡ last
      → Matches G (running (if t then goes_to s to else next s)) (Go r2 (if t then address G s.frame.function to else next_at) b s.input s.trace)
  either_way true to next_at r2 o e = (moved G ready s r here b m to (address G s.frame.function to) unset r2 o refl none_left, refl, refl)
  either_way false to next_at r2 o e = (moved G ready s r here b m (s.frame.at + 1) next_at unset r2 o e none_left, refl, refl)

  pub does_branch : (t : Test) (x y : Operand) (to : ℕ) → slice_get fn.code s.frame.at ≡ Some (instruction.Branch t x y to) → Comes G.machine Anything 1 (row fn (instruction.Branch t x y to)) (Go r here b s.input s.trace) (Matches G (act G.program s (instruction.Branch t x y to)))
  does_branch t x y to e =
      let st = ready.stands s.frame.function s.frame.at (instruction.Branch t x y to) e in
      let xs = source_of fn x in
      let ys = source_of fn y in
      let end = item.Branch t (register_of 5 xs) (register_of 6 ys) (first_of G.program s.frame.function + to) ∷ [] in
      let one = stands_parts G.machine.text G.env G.data_at (fetch 5 xs) (fetch 6 ys ++ end) here last st in
      let two = stands_parts G.machine.text G.env G.data_at (fetch 6 ys) end one.0 last one.2 in
      let fit = fits (instruction.Branch t x y to) e in
      let al0 : here % 4 ≡ 0 = (ready.aligned s.frame.function s.frame.at (instruction.Branch t x y to) e).0 in
      let al1 : one.0 % 4 ≡ 0 = (after_items G.machine.text G.env G.data_at (fetch 5 xs) here one.0 al0 one.1).aligned in
      let al2 : two.0 % 4 ≡ 0 = (after_items G.machine.text G.env G.data_at (fetch 6 ys) one.0 two.0 al1 two.1).aligned in
      let R : Progress → Type 0 = λ p. Comes G.machine Anything 1 (row fn (instruction.Branch t x y to)) (Go r here b s.input s.trace) (Matches G p) in
      let none : R stuck = no_more 1 (row fn (instruction.Branch t x y to)) (Go r here b s.input s.trace) (omega arith) in
      used (word_at s x) (λ a. word_at s y >>= λ c. running (if compare_of t a c then goes_to s to else next s)) R none (λ a ea.
      used (word_at s y) (λ c. running (if compare_of t a c then goes_to s to else next s)) R none (λ c ec.
      let Q : Light → Type 0 = Matches G (running (if compare_of t a c then goes_to s to else next s)) in
      let hx = operand_holds G ready s r here b m x (word a) fit.0 (word_some (value s x) a ea) in
      let hy = operand_holds G ready s r here b m y (word c) fit.1 (word_some (value s y) c ec) in
      fetches_two G.machine G.env G.data_at s.input s.trace Q m.sp open_stack r b m.sp_is 2 xs ys a c here one.0 two.0 hx.0 hy.0 one.1 two.1 (λ r2 off ha hc.
      let is : compare_of t (reg r2 (register_of 5 xs)) (reg r2 (register_of 6 ys)) ≡ compare_of t a c = rw (ha, hc) refl in
      on_either_branch G.machine Anything Q 0 r2 two.0 b s.input s.trace tt t (register_of 5 xs) (register_of 6 ys) (address G s.frame.function to) two.2.0 (compare_of t a c) al2 (there_aligned to fit.2) is two.2.1 tt
      (comes_now G.machine Anything 0 _ Q tt (either_way (compare_of t a c) to two.2.0 r2 off two.2.2)))))

  -- ---- Move

  pub moves_at : (arguments : Values) → ((k : ℕ) (v : Value) → arguments k ≡ Some v → s.arguments k ≡ Some v) → (d : Target) (v : Value) (o : Source) → TargetFits fn d → shown G v < 2 ^ 32 → SourceHolds r b m.sp o (shown G v) → (hm : Home) → home_of fn d ≡ hm → Stands G.machine.text G.env G.data_at (move hm o) here last
      → Comes G.machine Anything 1 (move_cost hm o) (Go r here b s.input s.trace) (Matches G (running (set d v (then_at arguments))))
  moves_at arguments sub d v o fit small holds (home.Register q) eh st =
      let Q : Light → Type 0 = Matches G (running (set d v (then_at arguments))) in
      let above : 8 ≤ q = home_register G ready s r here b m d q eh in
      comes_by G.machine Anything (into_cost o + 0) (into_cost o) (Go r here b s.input s.trace) Q (omega arith)
      (intos G.machine G.env G.data_at s.input s.trace Q m.sp open_stack r b m.sp_is {a0 = 0} 0 q (omega (arith, above)) (λ x. omega (arith, x, above)) o (shown G v) here last holds small st (λ r2 only held.
      comes_now G.machine Anything 0 _ Q tt
      (set_register G ready s r here b m (s.frame.at + 1) last arguments sub v small refl r2 d q eh fit (off_only q r r2 only) held, set_input d v (then_at arguments), set_trace d v (then_at arguments))))
  moves_at arguments sub d v o fit small holds (home.Frame p) eh st =
      let Q : Light → Type 0 = Matches G (running (set d v (then_at arguments))) in
      let parts = stands_parts G.machine.text G.env G.data_at (fetch 5 o) (store_word (register_of 5 o) p) here last st in
      comes_by G.machine Anything (fetch_cost o + (word_cost p + 0)) (fetch_cost o + word_cost p) (Go r here b s.input s.trace) Q (omega arith)
      (fetches G.machine G.env G.data_at s.input s.trace Q m.sp open_stack r b m.sp_is (word_cost p + 0) 5 (omega arith) (omega arith) o (shown G v) here parts.0 r (off_none 5 r) holds parts.1 (λ r2 only held.
      let off : Off 5 r r2 = off_only 5 r r2 only in
      let sp2 : r2 2 ≡ m.sp = off_sp 5 r r2 off (λ x. omega (arith, x)) ∙ m.sp_is in
      stores_word G.machine G.env G.data_at s.input s.trace Q {a0 = 0} 0 (register_of 5 o) p m.sp (shown G v) parts.0 last r2 b open_stack (source_stays r b m.sp (shown G v) o holds).1 sp2 (home_lies G ready s r here b m d p eh fit) held parts.2 (λ r3 only3.
      comes_now G.machine Anything 0 _ Q tt
      (set_word G ready s r here b m (s.frame.at + 1) last arguments sub v small refl r3 d p eh fit (off_then 5 7 r r2 r3 (omega arith) (omega arith) off only3), set_input d v (then_at arguments), set_trace d v (then_at arguments)))))

  -- a register is moved into itself
  stays : (d : Target) (v : Value) (x : Operand) → is_same d x ≡ true → TargetFits fn d → shown G v < 2 ^ 32 → SourceHolds r b m.sp (source_of fn x) (shown G v) → here ≡ last → Matches G (running (set d v (then_at s.arguments))) (Go r here b s.input s.trace)
  stays (target.Temporary k) v (operand.Temporary j) same fit small holds st =
      bool_cases (nat_lt k 8)
      (λ t.
      let test : (j == k) ≡ true = rw t at same in
      let is : j ≡ k = grind (arith, nat_tests) in
      let tj : nat_lt j 8 ≡ true = ap (λ z. nat_lt z 8) is ∙ t in
      let found : SourceHolds r b m.sp (source.Register (10 + j)) (shown G v) = rw tj at holds in
      let held : r (10 + k) ≡ shown G v = ap (λ z. r (10 + z)) (sym is) ∙ (sym (reg_is r (10 + j) (omega arith)) ∙ found.0) in
      let own : home_of fn (target.Temporary k) ≡ home.Register (10 + k) = rw t refl in
      (set_register G ready s r here b m (s.frame.at + 1) here s.arguments (λ i w ek. ek) v small st r (target.Temporary k) (10 + k) own fit (off_none (10 + k) r) held, refl, refl))
      (λ t. let no : false ≡ true = rw t at same in cc)
  stays (target.Temporary k) v (operand.Cell c) same fit small holds st = cc
  stays (target.Temporary k) v (operand.Constant w) same fit small holds st = cc
  stays (target.Temporary k) v (operand.Argument j) same fit small holds st = cc
  stays (target.Cell c) v x same fit small holds st = cc

  moves_or_stays : (d : Target) (x : Operand) → TargetFits fn d → OperandFits fn x → (t : Bool) → is_same d x ≡ t → Stands G.machine.text G.env G.data_at (items_of fn (first_of G.program s.frame.function) (if t then instruction.Nothing else instruction.Move d x)) here last
      → Comes G.machine Anything (least (if t then instruction.Nothing else instruction.Move d x)) (step_cost G.program fn (if t then instruction.Nothing else instruction.Move d x)) (Go r here b s.input s.trace) (Matches G (act G.program s (instruction.Move d x)))
  moves_or_stays d x fd fx true same st =
      let R : Progress → Type 0 = λ p. Comes G.machine Anything 0 0 (Go r here b s.input s.trace) (Matches G p) in
      used (value s x) (λ v. running (set d v (past s))) R (no_more 0 0 (Go r here b s.input s.trace) (omega arith)) (λ v ev.
      let hx = operand_holds G ready s r here b m x v fx ev in
      comes_now G.machine Anything 0 (Go r here b s.input s.trace) (Matches G (running (set d v (past s)))) tt (stays d v x same fd hx.1 hx.0 st))
  moves_or_stays d x fd fx false same st =
      let R : Progress → Type 0 = λ p. Comes G.machine Anything 1 (move_cost (home_of fn d) (source_of fn x)) (Go r here b s.input s.trace) (Matches G p) in
      used (value s x) (λ v. running (set d v (past s))) R (no_more 1 (move_cost (home_of fn d) (source_of fn x)) (Go r here b s.input s.trace) (move_some (home_of fn d) (source_of fn x))) (λ v ev.
      let hx = operand_holds G ready s r here b m x v fx ev in
      moves_at s.arguments (λ k w ek. ek) d v (source_of fn x) fd hx.1 hx.0 (home_of fn d) refl st)

  pub does_move : (d : Target) (x : Operand) → slice_get fn.code s.frame.at ≡ Some (instruction.Move d x) → Comes G.machine Anything (least_at fn s.frame.at (instruction.Move d x)) (most_at G.program fn s.frame.at (instruction.Move d x)) (Go r here b s.input s.trace) (Matches G (act G.program s (instruction.Move d x)))
  does_move d x e =
      let fit = fits (instruction.Move d x) e in
      moves_or_stays d x fit.0 fit.1 (is_same d x) refl (ready.stands s.frame.function s.frame.at (instruction.Move d x) e)

  -- ---- Convert

  converts_at : (c : Conversion) (d : Target) (o : Source) (a : ℕ) → TargetFits fn d → SourceHolds r b m.sp o a → (hm : Home) → home_of fn d ≡ hm → Stands G.machine.text G.env G.data_at (convert c hm o) here last
      → Comes G.machine Anything 1 (fetch_cost o + (narrow_cost c + keep_cost hm)) (Go r here b s.input s.trace) (Matches G (gives_word d s (converted c a)))
  converts_at c d o a fit holds hm eh st =
      let w = converted c a in
      let Q : Light → Type 0 = Matches G (gives_word d s w) in
      let rd = made_in hm in
      let above : 5 ≤ rd = made_above d hm eh in
      let pos : 0 < rd = omega (arith, above) in
      let one = stands_parts G.machine.text G.env G.data_at (fetch 5 o) (narrow c rd (register_of 5 o) ++ keep hm) here last st in
      let two = stands_parts G.machine.text G.env G.data_at (narrow c rd (register_of 5 o)) (keep hm) one.0 last one.2 in
      fetches G.machine G.env G.data_at s.input s.trace Q m.sp open_stack r b m.sp_is (narrow_cost c + keep_cost hm) 5 (omega arith) (omega arith) o a here one.0 r (off_none 5 r) holds one.1 (λ r2 only held.
      narrows G.machine G.env G.data_at s.input s.trace Q r2 b rd pos {a0 = 0} (keep_cost hm) c (register_of 5 o) a one.0 two.0 held two.1 (λ r3 only3 held3.
      finishes unset none_left d (word w) fit (converted_small c a) hm eh r3 (off_last rd r r2 r3 (off_only 5 r r2 only) only3) (reg_is r3 rd pos ∙ held3) two.0 two.2))

  pub does_convert : (c : Conversion) (d : Target) (x : Operand) → slice_get fn.code s.frame.at ≡ Some (instruction.Convert c d x) → Comes G.machine Anything 1 (row fn (instruction.Convert c d x)) (Go r here b s.input s.trace) (Matches G (act G.program s (instruction.Convert c d x)))
  does_convert c d x e =
      let R : Progress → Type 0 = λ p. Comes G.machine Anything 1 (row fn (instruction.Convert c d x)) (Go r here b s.input s.trace) (Matches G p) in
      let fit = fits (instruction.Convert c d x) e in
      used (word_at s x) (λ a. gives_word d s (converted c a)) R (no_more 1 (row fn (instruction.Convert c d x)) (Go r here b s.input s.trace) (omega (arith, narrow_some c))) (λ a ea.
      let hx = operand_holds G ready s r here b m x (word a) fit.1 (word_some (value s x) a ea) in
      converts_at c d (source_of fn x) a fit.0 hx.0 (home_of fn d) refl (ready.stands s.frame.function s.frame.at (instruction.Convert c d x) e))

-- ---- as laws

pub nothing_follows : Follows instruction.Nothing
nothing_follows G s r b ready m under e room = does_nothing G s r b ready m e

pub jump_follows : (to : ℕ) → Follows (instruction.Jump to)
jump_follows to G s r b ready m under e room = does_jump G s r b ready m to e

pub branch_follows : (t : Test) (x y : Operand) (to : ℕ) → Follows (instruction.Branch t x y to)
branch_follows t x y to G s r b ready m under e room = does_branch G s r b ready m t x y to e

pub move_follows : (d : Target) (x : Operand) → Follows (instruction.Move d x)
move_follows d x G s r b ready m under e room = does_move G s r b ready m d x e

pub convert_follows : (c : Conversion) (d : Target) (x : Operand) → Follows (instruction.Convert c d x)
convert_follows c d x G s r b ready m under e room = does_convert G s r b ready m c d x e
