-- Flat code with its words renumbered behaves as before.
use Rattle.std.proofs.Common.{◌≡◌, ℕ, zero, suc, ◌+◌, ◌*◌, max, List, [], ◌∷◌, length, map, Some, refl, sym, ap, ◌∙◌, subst, arith}
use Rattle.std.specs.Prelude.{slice_get, sum_by}
use Rattle.tac_code.specs.Code as tac
use Rattle.frames_code.specs.declared.code.Operand.{Operand}
use Rattle.frames_code.specs.declared.code.Operand.TheVariants as operand
use Rattle.frames_code.specs.declared.code.Target.{Target}
use Rattle.frames_code.specs.declared.code.Target.TheVariants as target
use Rattle.frames_code.specs.declared.code.Location.{Location}
use Rattle.frames_code.specs.declared.code.Location.TheVariants as location
use Rattle.frames_code.specs.declared.code.Instruction.{Instruction}
use Rattle.frames_code.specs.declared.code.Instruction.TheVariants as instruction
use Rattle.frames_code.specs.Code as flat
use Rattle.frames_code.specs.Code.{frame_bytes}
use Rattle.frames_code.specs.Run as flat_run
use Rattle.frames.specs.Costs.{fetch_bytes, keep_bytes, move_bytes, reach_bytes, reference_bytes, scale_bytes, code_bytes, function_bytes_in}
use Rattle.frames_code.specs.Costs.{entry_cost_of}
use Rattle.frames.specs.Flattened.{behind}
use Rattle.cc_backend.proofs.Plain.{sum_by_map, same_some}
use Rattle.frames_regalloc.specs.Renumbered.{renumbered_operand, renumbered_target, renumbered_location, renumbered, IsRenumberedFunction, AreRenumbered, IsRenumbered}
use Rattle.frames_regalloc.specs.Laws.{words_of, moved_frame, moved, moved_progress}
use Rattle.frames_regalloc.proofs.Whole.{runs_alike, costs_alike}
use Rattle.frames_regalloc.proofs.Soundness.{stays_sound}
use Rattle.cc_backend.specs.Forms.{IsOptimisedCodeOf, IsFormOf}
use Rattle.cc_backend.specs.Simulation.{Simulates, step_for_step}
use Rattle.cc_backend.specs.Chain.{of_flat, RenumberedSimulatesFlat}

-- ---- bytes of code

fetch_same : (to : ℕ → ℕ) (x : Operand) → fetch_bytes (renumbered_operand to x) ≡ fetch_bytes x
fetch_same to (operand.Temporary k) = refl
fetch_same to (operand.Cell c) = refl
fetch_same to (operand.Constant v) = refl
fetch_same to (operand.Argument k) = refl

keep_same : (to : ℕ → ℕ) (d : Target) → keep_bytes (renumbered_target to d) ≡ keep_bytes d
keep_same to (target.Temporary k) = refl
keep_same to (target.Cell c) = refl

-- a function of two equal numbers, and of three
two_same : (f : ℕ → ℕ → ℕ) (a b x y : ℕ) → a ≡ b → x ≡ y → f a x ≡ f b y
two_same f a b x y e g = ap (λ n. f n x) e ∙ ap (f b) g

three_same : (f : ℕ → ℕ → ℕ → ℕ) (a b x y m n : ℕ) → a ≡ b → x ≡ y → m ≡ n → f a x m ≡ f b y n
three_same f a b x y m n e g h = ap (λ k. f k x m) e ∙ two_same (f b) x y m n g h

move_same : (to : ℕ → ℕ) (d : Target) (x : Operand) → move_bytes (renumbered_target to d) (renumbered_operand to x) ≡ move_bytes d x
move_same to d x = two_same (λ a b. max 4 (a + b)) _ _ _ _ (fetch_same to x) (keep_same to d)

reach_same : (to : ℕ → ℕ) (l : Location) → reach_bytes (renumbered_location to l) ≡ reach_bytes l
reach_same to (location.Statics o) = refl
reach_same to (location.Frame o) = refl
reach_same to (location.At x) = fetch_same to x
reach_same to (location.Indexed b y size) = ap (λ n. n + scale_bytes size) (fetch_same to y)

reference_same : (to : ℕ → ℕ) (d : Target) (l : Location) → reference_bytes (renumbered_target to d) (renumbered_location to l) ≡ reference_bytes d l
reference_same to d (location.Statics o) = ap (λ n. 8 + n) (keep_same to d)
reference_same to d (location.Frame o) = ap (λ n. 12 + n) (keep_same to d)
reference_same to d (location.At x) = move_same to d x
reference_same to d (location.Indexed b y size) = two_same (λ n m. n + (scale_bytes size + (4 + m))) _ _ _ _ (fetch_same to y) (keep_same to d)

bytes_same : (to : ℕ → ℕ) (x : Instruction) → code_bytes (renumbered to x) ≡ code_bytes x
bytes_same to instruction.Nothing = refl
bytes_same to (instruction.Move d x) = move_same to d x
bytes_same to (instruction.Compute o d x y) =
    three_same (λ a b c. a + (b + (8 + c))) _ _ _ _ _ _ (fetch_same to x) (fetch_same to y) (keep_same to d)
bytes_same to (instruction.Convert c d x) = two_same (λ a b. a + (8 + b)) _ _ _ _ (fetch_same to x) (keep_same to d)
bytes_same to (instruction.Load w d l) = two_same (λ a b. a + (4 + b)) _ _ _ _ (reach_same to l) (keep_same to d)
bytes_same to (instruction.Store w x l) = two_same (λ a b. a + (b + 4)) _ _ _ _ (fetch_same to x) (reach_same to l)
bytes_same to (instruction.Address d l) = reference_same to d l
bytes_same to (instruction.Element d x y size) =
    three_same (λ a b c. a + (b + (scale_bytes size + c))) _ _ _ _ _ _ (fetch_same to x) (fetch_same to y) (keep_same to d)
bytes_same to (instruction.Jump k) = refl
bytes_same to (instruction.Branch t x y k) = two_same (λ a b. a + (b + 8)) _ _ _ _ (fetch_same to x) (fetch_same to y)
bytes_same to (instruction.Call f) = refl
bytes_same to instruction.PutByte = refl
bytes_same to instruction.GetByte = refl
bytes_same to instruction.Exit = refl
bytes_same to instruction.Return = refl

code_same : (f g : flat.Function) → IsRenumberedFunction f g → function_bytes_in g ≡ function_bytes_in f
code_same f g r =
    let here : function_bytes_in g ≡ 4 * entry_cost_of f + sum_by code_bytes (map (renumbered r.to) f.code) = ap function_bytes_in r.is in
    here ∙ ap (λ n. 4 * entry_cost_of f + n) (sum_by_map code_bytes (renumbered r.to) code_bytes (bytes_same r.to) f.code)

frame_same : (f g : flat.Function) → IsRenumberedFunction f g → frame_bytes g ≡ frame_bytes f
frame_same f g r = ap frame_bytes r.is

one_is_code : (a : tac.Function) (f g : flat.Function) → IsRenumberedFunction f g → IsOptimisedCodeOf a f → IsOptimisedCodeOf a g
one_is_code a f g r is = record {
  frame = (let e = frame_same f g r in omega (arith, e, is.frame));
  code = (let e = code_same f g r in omega (arith, e, is.code));
}

each_is_code : (qs : List tac.Function) (fs gs : List flat.Function) → AreRenumbered fs gs
    → ((k : ℕ) (a : tac.Function) (f : flat.Function) → slice_get qs k ≡ Some a → slice_get fs k ≡ Some f → IsOptimisedCodeOf a f)
    → (k : ℕ) (a : tac.Function) (g : flat.Function) → slice_get qs k ≡ Some a → slice_get gs k ≡ Some g → IsOptimisedCodeOf a g
each_is_code qs [] [] r all k a g ea eg = absurd (let x : ⊥ = cc in x)
each_is_code qs [] (y ∷ ys) r all k a g ea eg = absurd r
each_is_code qs (x ∷ xs) [] r all k a g ea eg = absurd r
each_is_code [] (x ∷ xs) (y ∷ ys) r all k a g ea eg = absurd (let x : ⊥ = cc in x)
each_is_code (b ∷ bs) (x ∷ xs) (y ∷ ys) r all zero a g ea eg =
    subst (IsOptimisedCodeOf a) (same_some y g eg) (one_is_code a x y r.0 (all 0 a x ea refl))
each_is_code (b ∷ bs) (x ∷ xs) (y ∷ ys) r all (suc k) a g ea eg = each_is_code bs xs ys r.1 (λ j. all (suc j)) k a g ea eg

-- ---- runs

abbrev state_or : flat_run.State → flat_run.Progress → flat_run.State
state_or t (flat_run.running s) = s
state_or t (flat_run.ended status left trace) = t
state_or t flat_run.stuck = t

abbrev GoesOn : flat_run.Progress → Type 0
GoesOn (flat_run.running s) = Unit {0}
GoesOn (flat_run.ended status left trace) = ⊥
GoesOn flat_run.stuck = ⊥

functions_same : (from : ℕ → ℕ → ℕ) (ws : List flat_run.Frame) → map (λ w. w.function) (map (moved_frame from) ws) ≡ map (λ w. w.function) ws
functions_same from [] = refl
functions_same from (w ∷ ws) = ap (λ (ns : List ℕ). w.function ∷ ns) (functions_same from ws)

pub calls_same : (from : ℕ → ℕ → ℕ) (s : flat_run.State) → flat_run.active (moved from s) ≡ flat_run.active s
calls_same from s = functions_same from (s.frame ∷ s.waiting)

module _ (f g : flat.Program) (same : IsRenumbered f g) (input : List ℕ) where
  abbrev from : ℕ → ℕ → ℕ
  from = words_of f.functions g.functions same.functions

  run_is : (m : ℕ) → behind g input m ≡ moved_progress from (behind f input m)
  run_is m = runs_alike f g same m input

  same_calls : (n : ℕ) (calls : List ℕ) → (of_flat g input).Calls n calls → (of_flat f input).Calls n calls
  same_calls n calls c = on (behind f input c.0) refl (sym (run_is c.0) ∙ c.3)
    where
      on : (x : flat_run.Progress) → behind f input c.0 ≡ x → moved_progress from (behind f input c.0) ≡ flat_run.running c.1 → (of_flat f input).Calls n calls
      on (flat_run.running u) here there =
          let state : moved from u ≡ c.1 = ap (state_or c.1) (sym (ap (moved_progress from) here) ∙ there) in
          (c.0, u, c.2, here, sym (calls_same from u) ∙ (ap flat_run.active state ∙ c.4))
      on (flat_run.ended status left trace) here there = absurd (subst GoesOn (sym (sym (ap (moved_progress from) here) ∙ there)) tt)
      on flat_run.stuck here there = absurd (subst GoesOn (sym (sym (ap (moved_progress from) here) ∙ there)) tt)

  pub simulates : (weight : ℕ → ℕ) (limit : ℕ) → Simulates step_for_step weight limit (of_flat f input) (of_flat g input)
  simulates weight limit = record {
    goes_on = λ n x goes fit.
        let e = costs_alike f g same n input in
        let stands : behind g input n ≡ flat_run.running (moved from goes.0) = run_is n ∙ ap (moved_progress from) goes.1 in
        (n, omega arith, omega arith, omega (arith, e), (moved from goes.0, stands, goes.2, goes.3, calls_same from goes.0 ∙ goes.4), same_calls n);
    halts = λ n x goes fit.
        let e = costs_alike f g same n input in
        let stands : behind g input n ≡ flat_run.running (moved from goes.0) = run_is n ∙ ap (moved_progress from) goes.1 in
        (n, omega (arith, e), (moved from goes.0, stands, goes.2, goes.3, calls_same from goes.0 ∙ goes.4), same_calls n);
    ends = λ n x ends fit.
        let e = costs_alike f g same n input in
        (n, omega (arith, e), run_is n ∙ ap (moved_progress from) ends, same_calls n);
  }

pub renumbered_simulates_flat : RenumberedSimulatesFlat
renumbered_simulates_flat weight limit f g input same = simulates f g same input weight limit

-- ---- the rest

same_count : (fs gs : List flat.Function) → AreRenumbered fs gs → length gs ≡ length fs
same_count [] [] r = refl
same_count [] (g ∷ gs) r = absurd r
same_count (f ∷ fs) [] r = absurd r
same_count (f ∷ fs) (g ∷ gs) r = ap suc (same_count fs gs r.1)

pub renumbered_form : (q : tac.Program) (f g : flat.Program) → IsFormOf q f → IsRenumbered f g → IsFormOf q g
renumbered_form q f g form same = record {
  sound = stays_sound f g same form.sound;
  statics = same.statics ∙ form.statics;
  main = same.main ∙ form.main;
  count = same_count f.functions g.functions same.functions ∙ form.count;
  each = each_is_code q.functions f.functions g.functions same.functions form.each;
}
