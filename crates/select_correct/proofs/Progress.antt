-- Steps without items are no more in a row than a function has instructions.
use Rattle.std.proofs.Common.{◌≡◌, Bool, true, false, ℕ, zero, suc, ◌+◌, ◌*◌, ◌-◌, ◌<◌, ◌≤◌, List, [], ◌∷◌, length, Option, Some, None, refl, sym, ap, ◌∙◌, subst, arith}
use Rattle.std.specs.Prelude.{slice_get, nat_lt, if◌then◌else◌}
use Rattle.std.proofs.lemmas.Bool.{and_parts, ltb-true}
use Rattle.std.proofs.lemmas.List.Sums.{sum_by-cons}
use Rattle.frames_code.specs.declared.code.Operand.{Operand}
use Rattle.frames_code.specs.declared.code.Target.{Target}
use Rattle.frames_code.specs.declared.code.Target.TheVariants as target
use Rattle.frames_code.specs.declared.code.Instruction.{Instruction}
use Rattle.frames_code.specs.declared.code.Instruction.TheVariants as instruction
use Rattle.frames_code.specs.Code.{Function, Program}
use Rattle.frames_code.specs.Sound.{places_of}
use Rattle.frames_code.specs.Costs.{next_of, cost_on}
use Rattle.frames_code.specs.Run.{State, Value, Progress, running, ended, stuck, past, goes_to, set, value, function_at, act, step, run, goes_on, ◌>>=◌}
use Rattle.select.specs.Selected.{is_same, are_nothing, skips_nothing}
use Rattle.select_correct.specs.Costs.{least, least_at, least_if, least_spent}
use Rattle.select_correct.specs.Runs.{slack, Progresses}
use Rattle.select_correct.proofs.Inputs.{step_is}
use Rattle.select_correct.proofs.Laying.{known, unknown}

set_stays : (d : Target) (v : Value) (s : State) → ((set d v s).frame.function ≡ s.frame.function) × ((set d v s).frame.at ≡ s.frame.at)
set_stays (target.Temporary k) v s = (refl, refl)
set_stays (target.Cell c) v s = (refl, refl)

some_below : (xs : List Instruction) (k : ℕ) (x : Instruction) → slice_get xs k ≡ Some x → k < length xs
some_below [] k x e = cc
some_below (y ∷ ys) zero x e = omega arith
some_below (y ∷ ys) (suc k) x e = omega (arith, some_below ys k x e)

code_within : (fs : List Function) (k : ℕ) (g : Function) → slice_get fs k ≡ Some g → length g.code ≤ places_of fs
code_within [] k g e = cc
code_within (f ∷ fs) zero g e =
    let same : f ≡ g = cc in
    let size : length f.code ≡ length g.code = ap (λ (z : Function). length z.code) same in
    omega (arith, size, sum_by-cons (λ (z : Function). length z.code + 1) f fs)
code_within (f ∷ fs) (suc k) g e = omega (arith, code_within fs k g e, sum_by-cons (λ (z : Function). length z.code + 1) f fs)

summed : (m a b n x y z : ℕ) → 1 + y ≤ m * a + x → n + z ≤ m * b + y → suc n + z ≤ m * (a + b) + x
summed m a b n x y z h k =
    let e : m * (a + b) ≡ m * a + m * b = grind arith in
    omega (arith, h, k, e)

module _ (p : Program) where
  -- how many instructions of the function are ahead
  abbrev ahead : State → ℕ
  ahead s = length (function_at p s.frame.function).code - s.frame.at

  code_some : (o : Option Function) (f : ℕ) → slice_get p.functions f ≡ o → length (function_at p f).code ≤ places_of p.functions
  code_some None f e = let none : 0 ≡ length (function_at p f).code = ap length (unknown p f e) in omega (arith, none)
  code_some (Some g) f e =
      let size : length g.code ≡ length (function_at p f).code = ap (λ (z : Function). length z.code) (known p f g e) in
      omega (arith, size, code_within p.functions f g e)

  ahead_within : (s : State) → ahead s ≤ places_of p.functions
  ahead_within s = omega (arith, code_some (slice_get p.functions s.frame.function) s.frame.function refl)

  -- an instruction that only goes on to a later one leaves less, and all others take at least one instruction
  abbrev LeavesLess : State → State → ℕ → Type 0
  LeavesLess s t n = 1 + ahead t ≤ slack p * n + ahead s

  goes_forward : (s t : State) (x : Instruction) (n : ℕ) → next_of p s ≡ Some x → t.frame.function ≡ s.frame.function → s.frame.at < t.frame.at → LeavesLess s t n
  goes_forward s t x n e ef further =
      let lt = some_below (function_at p s.frame.function).code s.frame.at x e in
      let size : length (function_at p t.frame.function).code ≡ length (function_at p s.frame.function).code = ap (λ f. length (function_at p f).code) ef in
      omega (arith, lt, size, further)

  goes_on_one : (s t : State) (x : Instruction) (n : ℕ) → next_of p s ≡ Some x → t.frame.function ≡ s.frame.function → t.frame.at ≡ s.frame.at + 1 → LeavesLess s t n
  goes_on_one s t x n e ef ea = goes_forward s t x n e ef (omega (arith, ea))

  takes_one : (s t : State) → LeavesLess s t 1
  takes_one s t = omega (arith, ahead_within t)

  jump_falls : (s t : State) (to : ℕ) → next_of p s ≡ Some (instruction.Jump to) → goes_to s to ≡ t → (b : Bool) → skips_nothing (function_at p s.frame.function).code s.frame.at to ≡ b → LeavesLess s t (least (if b then instruction.Nothing else instruction.Jump to))
  jump_falls s t to e et true eb =
      let both = and_parts (nat_lt s.frame.at to) (are_nothing (function_at p s.frame.function).code (s.frame.at + 1) (to - (s.frame.at + 1))) eb in
      goes_forward s t (instruction.Jump to) 0 e (ap (λ (z : State). z.frame.function) (sym et)) (subst (λ k. s.frame.at < k) (ap (λ (z : State). z.frame.at) et) (ltb-true s.frame.at to both.0))
  jump_falls s t to e et false eb = takes_one s t

  move_falls : (s t : State) (d : Target) (x : Operand) → next_of p s ≡ Some (instruction.Move d x) → (o : Option Value) → (o >>= λ v. running (set d v (past s))) ≡ running t → (b : Bool) → LeavesLess s t (least (if b then instruction.Nothing else instruction.Move d x))
  move_falls s t d x e None et b = cc
  move_falls s t d x e (Some v) et true =
      let same : set d v (past s) ≡ t = cc in
      let kept = set_stays d v (past s) in
      goes_on_one s t (instruction.Move d x) 0 e (ap (λ (z : State). z.frame.function) (sym same) ∙ kept.0) (ap (λ (z : State). z.frame.at) (sym same) ∙ kept.1)
  move_falls s t d x e (Some v) et false = takes_one s t

  act_falls : (s : State) (x : Instruction) → next_of p s ≡ Some x → (t : State) → act p s x ≡ running t → LeavesLess s t (least_at (function_at p s.frame.function) s.frame.at x)
  act_falls s instruction.Nothing e t et =
      let same : past s ≡ t = cc in
      goes_on_one s t instruction.Nothing 0 e (ap (λ (z : State). z.frame.function) (sym same)) (ap (λ (z : State). z.frame.at) (sym same))
  act_falls s (instruction.Move d x) e t et = move_falls s t d x e (value s x) et (is_same d x)
  act_falls s (instruction.Compute o d x y) e t et = takes_one s t
  act_falls s (instruction.Convert c d x) e t et = takes_one s t
  act_falls s (instruction.Load w d l) e t et = takes_one s t
  act_falls s (instruction.Store w x l) e t et = takes_one s t
  act_falls s (instruction.Address d l) e t et = takes_one s t
  act_falls s (instruction.Element d x y size) e t et = takes_one s t
  act_falls s (instruction.Jump to) e t et = let same : goes_to s to ≡ t = cc in jump_falls s t to e same (skips_nothing (function_at p s.frame.function).code s.frame.at to) refl
  act_falls s (instruction.Branch u x y to) e t et = takes_one s t
  act_falls s (instruction.Call g) e t et = takes_one s t
  act_falls s instruction.PutByte e t et = takes_one s t
  act_falls s instruction.GetByte e t et = takes_one s t
  act_falls s instruction.Exit e t et = takes_one s t
  act_falls s instruction.Return e t et = takes_one s t

  any_falls : (s : State) (o : Option Instruction) → next_of p s ≡ o → (t : State) → (o >>= act p s) ≡ running t → 1 + ahead t ≤ slack p * least_if (function_at p s.frame.function) s.frame.at o + ahead s
  any_falls s None e t et = cc
  any_falls s (Some x) e t et = act_falls s x e t et

  abbrev Falls : ℕ → Type 0
  Falls n = (s t : State) → run p n s ≡ running t → n + ahead t ≤ slack p * least_spent p n s + ahead s

  further : (n : ℕ) → Falls n → (s t : State) (x : Progress) → step p s ≡ x → goes_on x (run p n) ≡ running t → suc n + ahead t ≤ slack p * (least_if (function_at p s.frame.function) s.frame.at (next_of p s) + cost_on x (least_spent p n)) + ahead s
  further n more s t (running s2) ex e =
      let one : 1 + ahead s2 ≤ slack p * least_if (function_at p s.frame.function) s.frame.at (next_of p s) + ahead s = any_falls s (next_of p s) refl s2 (sym (step_is p s) ∙ ex) in
      summed (slack p) (least_if (function_at p s.frame.function) s.frame.at (next_of p s)) (least_spent p n s2) n (ahead s) (ahead s2) (ahead t) one (more s2 t e)
  further n more s t (ended status input trace) ex e = cc
  further n more s t stuck ex e = cc

  falls : (n : ℕ) → Falls n
  falls zero s t e =
      let same : s ≡ t = cc in
      let less : ahead s ≡ ahead t = ap ahead same in
      omega (arith, less)
  falls (suc n) s t e = further n (falls n) s t (step p s) refl e

multiplied : (m a n x : ℕ) → n ≤ m * a + x → x < m → n < m * (a + 1)
multiplied m a n x h lt =
    let e : m * (a + 1) ≡ m * a + m = grind arith in
    omega (arith, h, lt, e)

pub progresses : Progresses
progresses p n s t e = multiplied (slack p) (least_spent p n s) n (ahead p s) (omega (arith, falls p n s t e)) (omega (arith, ahead_within p s))

spread : (m x y : ℕ) → m * (x + y) ≡ m * x + m * y
spread m x y = grind arith

pub times_more : (m a b n : ℕ) → n < m * (a + 1) → a + 1 ≤ b → n < m * b
times_more m a b n lt le =
    let e : m * b ≡ m * (a + 1) + m * (b - (a + 1)) = subst (λ k. m * k ≡ m * (a + 1) + m * (b - (a + 1))) (omega (arith, le)) (spread m (a + 1) (b - (a + 1))) in
    omega (arith, lt, e)
