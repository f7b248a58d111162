-- The machine follows flat code: whatever the instruction, and step by step.
use Rattle.std.proofs.Common.{◌≡◌, ℕ, zero, suc, ◌<◌, ◌≤◌, List, Option, Some, None, refl, sym, subst, arith}
use Rattle.frames_code.specs.declared.code.Instruction.{Instruction}
use Rattle.frames_code.specs.declared.code.Instruction.TheVariants as instruction
use Rattle.csem_events.specs.Events.{Event}
use Rattle.frames_code.specs.Run.{State, Progress, running, ended, stuck, function_at, act, step, run, goes_on, ◌>>=◌}
use Rattle.select_exec.specs.Light.{Light, Go, Done, Fell, Comes}
use Rattle.select_exec.proofs.Steps.{comes_now, comes_then}
use Rattle.select_correct.specs.Matches.{Ground, Ready, Matched, Matches, HasRoom, IsBelow, address}
use Rattle.frames_code.specs.Costs.{next_of, cost_on}
use Rattle.select_correct.specs.Costs.{least_at, least_if, least_spent, most_at, most_if, most_next, most_spent}
use Rattle.select_correct.specs.Laws.{Anything, AreBytes}
use Rattle.select_correct.specs.Runs.{StepFollows, RunsFollow}
use Rattle.select_correct.specs.Standing.{InputStaysBytes}
use Rattle.select_correct.proofs.Forms.{no_more, nothing_follows, jump_follows, branch_follows, move_follows, convert_follows}
use Rattle.select_correct.proofs.Computing.{compute_follows, exit_follows}
use Rattle.select_correct.proofs.References.{address_follows}
use Rattle.select_correct.proofs.Elements.{element_follows}
use Rattle.select_correct.proofs.Accesses.{load_follows, store_follows}
use Rattle.select_correct.proofs.Inputs.{Lasts, Kept, step_is, step_keeps}
use Rattle.select_correct.proofs.Environment.{put_follows, get_follows}
use Rattle.select_correct.proofs.Calls.{call_follows, return_follows}

-- ---- one step

every : (x : Instruction) (G : Ground) (s : State) (r b : ℕ → ℕ) → Ready G → Matched G s r (address G s.frame.function s.frame.at) b → IsBelow G (running s) → AreBytes s.input → next_of G.program s ≡ Some x → HasRoom G (act G.program s x)
    → Comes G.machine Anything (least_at (function_at G.program s.frame.function) s.frame.at x) (most_at G.program (function_at G.program s.frame.function) s.frame.at x) (Go r (address G s.frame.function s.frame.at) b s.input s.trace) (Matches G (act G.program s x))
every instruction.Nothing G s r b ready m under bytes e room = nothing_follows G s r b ready m under e room
every (instruction.Move d x) G s r b ready m under bytes e room = move_follows d x G s r b ready m under e room
every (instruction.Compute o d x y) G s r b ready m under bytes e room = compute_follows o d x y G s r b ready m under e room
every (instruction.Convert c d x) G s r b ready m under bytes e room = convert_follows c d x G s r b ready m under e room
every (instruction.Load w d l) G s r b ready m under bytes e room = load_follows w d l G s r b ready m under e room
every (instruction.Store w x l) G s r b ready m under bytes e room = store_follows w x l G s r b ready m under e room
every (instruction.Address d l) G s r b ready m under bytes e room = address_follows d l G s r b ready m under e room
every (instruction.Element d x y size) G s r b ready m under bytes e room = element_follows d x y size G s r b ready m under e room
every (instruction.Jump to) G s r b ready m under bytes e room = jump_follows to G s r b ready m under e room
every (instruction.Branch t x y to) G s r b ready m under bytes e room = branch_follows t x y to G s r b ready m under e room
every (instruction.Call f) G s r b ready m under bytes e room = call_follows f G s r b ready m under e room
every instruction.PutByte G s r b ready m under bytes e room = put_follows G s r b ready m under e room
every instruction.GetByte G s r b ready m under bytes e room = get_follows G s r b ready m under bytes e room
every instruction.Exit G s r b ready m under bytes e room = exit_follows G s r b ready m under e room
every instruction.Return G s r b ready m under bytes e room = return_follows G s r b ready m under e room

any : (o : Option Instruction) (G : Ground) (s : State) (r b : ℕ → ℕ) → Ready G → Matched G s r (address G s.frame.function s.frame.at) b → IsBelow G (running s) → AreBytes s.input → next_of G.program s ≡ o → HasRoom G (o >>= act G.program s)
    → Comes G.machine Anything (least_if (function_at G.program s.frame.function) s.frame.at o) (most_if G.program (function_at G.program s.frame.function) s.frame.at o) (Go r (address G s.frame.function s.frame.at) b s.input s.trace) (Matches G (o >>= act G.program s))
any None G s r b ready m under bytes e room = no_more G s r b ready m 0 0 _ (omega arith)
any (Some x) G s r b ready m under bytes e room = every x G s r b ready m under bytes e room

pub step_follows : StepFollows
step_follows G s r b ready m under bytes room =
    let e = step_is G.program s in
    let here = Go r (address G s.frame.function s.frame.at) b s.input s.trace in
    subst (λ x. Comes G.machine Anything (least_if (function_at G.program s.frame.function) s.frame.at (next_of G.program s)) (most_next G.program s) here (Matches G x)) (sym e)
    (any (next_of G.program s) G s r b ready m under bytes refl (subst (HasRoom G) e room))

-- ---- the remaining input is bytes

abbrev pub BytesLeft : List ℕ → List Event → Type 0
BytesLeft input trace = AreBytes input

pub bytes_last : (input : List ℕ) (trace : List Event) → AreBytes input → Lasts BytesLeft input trace
bytes_last input trace q = record {
  now = q;
  at_put = λ c. q;
  at_end = λ e. q;
  at_byte = λ c rest e. λ k x ek. subst AreBytes e q (suc k) x ek;
}

pub input_stays_bytes : InputStaysBytes
input_stays_bytes p s t e q = subst (Kept BytesLeft) e (step_keeps BytesLeft p s (bytes_last s.input s.trace q))

-- ---- several steps

room_one : (G : Ground) (x : Progress) → HasRoom G (goes_on x (run G.program 0)) → HasRoom G x
room_one G (running s) room = room
room_one G (ended status input trace) room = tt
room_one G stuck room = tt

module _ (G : Ground) (ready : Ready G) where
  abbrev Runs : ℕ → Type 0
  Runs n = (s : State) (m : Light) → Matches G (running s) m → AreBytes s.input → ((k : ℕ) → k ≤ n → HasRoom G (run G.program k s)) → ((k : ℕ) → k < n → IsBelow G (run G.program k s)) → Comes G.machine Anything (least_spent G.program n s) (most_spent G.program n s) m (Matches G (run G.program n s))

  goes_further : (n : ℕ) → Runs n → (x : Progress) (m : Light) → Matches G x m → Kept BytesLeft x → ((k : ℕ) → k ≤ n → HasRoom G (goes_on x (run G.program k))) → ((k : ℕ) → k < n → IsBelow G (goes_on x (run G.program k)))
      → Comes G.machine Anything (cost_on x (least_spent G.program n)) (cost_on x (most_spent G.program n)) m (Matches G (goes_on x (run G.program n)))
  goes_further n more (running s) m q bytes rooms unders = more s m q bytes rooms unders
  goes_further n more (ended status input trace) m q bytes rooms unders = comes_now G.machine Anything 0 m (Matches G (ended status input trace)) tt q
  goes_further n more stuck m q bytes rooms unders = comes_now G.machine Anything 0 m (Matches G stuck) tt tt

  steps_once : (n : ℕ) → Runs n → (s : State) (r b : ℕ → ℕ) → Matched G s r (address G s.frame.function s.frame.at) b → AreBytes s.input → ((k : ℕ) → k ≤ suc n → HasRoom G (run G.program k s)) → ((k : ℕ) → k < suc n → IsBelow G (run G.program k s))
      → Comes G.machine Anything (least_spent G.program (suc n) s) (most_spent G.program (suc n) s) (Go r (address G s.frame.function s.frame.at) b s.input s.trace) (Matches G (run G.program (suc n) s))
  steps_once n more s r b m bytes rooms unders =
      let p = G.program in
      let x = step p s in
      let here = Go r (address G s.frame.function s.frame.at) b s.input s.trace in
      let one = step_follows G s r b ready m (unders 0 (omega arith)) bytes (room_one G x (rooms 1 (omega arith))) in
      comes_then G.machine Anything (most_next p s) (cost_on x (most_spent p n)) here (Matches G x) (Matches G (goes_on x (run p n))) one
      (λ m2 q. goes_further n more x m2 q (step_keeps BytesLeft p s (bytes_last s.input s.trace bytes)) (λ k le. rooms (suc k) (omega (arith, le))) (λ k lt. unders (suc k) (omega (arith, lt))))

  steps_from : (n : ℕ) → Runs n → Runs (suc n)
  steps_from n more s (Go r at b i h) q bytes rooms unders =
      let R : Light → Type 0 = λ m. Comes G.machine Anything (least_spent G.program (suc n) s) (most_spent G.program (suc n) s) m (Matches G (run G.program (suc n) s)) in
      let m = subst (λ x. Matched G s r x b) q.0.at_is q.0 in
      let c : R (Go r (address G s.frame.function s.frame.at) b s.input s.trace) = steps_once n more s r b m bytes rooms unders in
      subst (λ x. R (Go r x b i h)) (sym q.0.at_is) (subst (λ x. R (Go r (address G s.frame.function s.frame.at) b x h)) (sym q.1) (subst (λ x. R (Go r (address G s.frame.function s.frame.at) b s.input x)) (sym q.2) c))
  steps_from n more s (Done status h) q bytes rooms unders = absurd q
  steps_from n more s (Fell h) q bytes rooms unders = absurd q

  pub steps : (n : ℕ) → Runs n
  steps zero s m q bytes rooms unders = comes_now G.machine Anything 0 m (Matches G (running s)) tt q
  steps (suc n) s m q bytes rooms unders = steps_from n (steps n) s m q bytes rooms unders

pub runs_follow : RunsFollow
runs_follow G n s r b ready m bytes rooms unders = steps G ready n s (Go r (address G s.frame.function s.frame.at) b s.input s.trace) (m, refl, refl) bytes rooms unders
