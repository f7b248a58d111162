-- The calls that are active at a step of a file's flat code.
use Rattle.std.proofs.Common.{◌≡◌, ⊎_elim, ℕ, ◌+◌, ◌-◌, ◌≤◌, List, refl, sym, ap, ◌∙◌, arith, ◌*◌}
use Rattle.std.proofs.lemmas.Bool.{cases_lt}
use Rattle.typing_spec.specs.Program.{Program}
use Rattle.csem.specs.History.{Entry, trace_of, active, weight_in, greatest_sum}
use Rattle.csem.specs.Machine.{Ending, Ended, Undefined, TicksUsed, Stops}
use Rattle.csem.specs.Meaning.{cstep, ending_of, last_of}
use Rattle.frames_code.specs.Run as flat
use Rattle.frames.specs.Flattened.{behind}
use Rattle.frames_correct.proofs.Runs.{run_both}
use Rattle.cc_backend.specs.Runs.{IsInput}
use Rattle.frames_layout.specs.LaidOut.{pace}
use Rattle.cc_backend.specs.Made.{IsFileOf}
use Rattle.cc_backend.specs.Simulation.{Doing, Done}
use Rattle.cc_backend.specs.Chain.{of_program, of_flat}
use Rattle.cc_backend.proofs.Chain.{flat_simulates_program, calls_are_within}
use Rattle.cc_backend.proofs.Making.{way_of}
use Rattle.cc_laws.specs.Laws.{IsDefined, StaysDefined, HasComeTo, FilesCallAsMeant}
use Rattle.cc_laws.proofs.Clock.{run_stops}

module _ (stack : ℕ) (p : Program) (file frames : List ℕ) (made : IsFileOf stack p file frames) (input : List ℕ) (bytes : IsInput input) (fine : StaysDefined stack p input) where
  abbrev AsMeant : flat.State → Type 0
  AsMeant s = (n : ℕ) × (history : List Entry) × HasComeTo p input n history × (flat.active s ≡ active history)

  -- at a step among those that simulate n ticks
  on_the_way : (n m : ℕ) → ((calls : List ℕ) → (of_flat made.code input).Calls m calls → (of_program p input).Calls n calls) → (k : ℕ) (s : flat.State) → k ≤ m → behind made.code input k ≡ flat.running s → AsMeant s
  on_the_way n m its k s le e =
      let c = its (flat.active s) (k, s, le, e, refl) in
      (n, c.0, c.1, sym c.2)

  at_ticks : (n k : ℕ) (s : flat.State) → pace * k ≤ n → cstep n p input ≡ Stops TicksUsed (last_of (cstep n p input)) → behind made.code input k ≡ flat.running s → AsMeant s
  at_ticks n k s enough over e =
      let stop = last_of (cstep n p input) in
      let most = greatest_sum (weight_in p) stop.history in
      let x : Doing = record { trace = trace_of stop.history; input = stop.input; calls = active stop.history } in
      let c = (flat_simulates_program (weight_in p) most p made.code input (way_of p made.code made.code_is) bytes).goes_on n x (stop, over, refl, refl, refl) (calls_are_within p input most n (omega arith)) in
      on_the_way n c.0 c.5 k s (omega (arith, enough, c.1)) e

  at_end : (n status : ℕ) (s : flat.State) → cstep n p input ≡ Stops (Ended status) (last_of (cstep n p input)) → (k : ℕ) → behind made.code input k ≡ flat.running s → AsMeant s
  at_end n status s over k e =
      let stop = last_of (cstep n p input) in
      let most = greatest_sum (weight_in p) stop.history in
      let x : Done = record { status = status; trace = trace_of stop.history; input = stop.input } in
      let c = (flat_simulates_program (weight_in p) most p made.code input (way_of p made.code made.code_is) bytes).ends n x (stop, over, refl, refl) (calls_are_within p input most n (omega arith)) in
      ⊎_elim
      (λ lt. on_the_way n c.0 c.3 k s (omega (arith, lt)) e)
      (λ ge.
      let sum : k ≡ c.0 + (k - c.0) = omega (arith, ge) in
      let whole : behind made.code input k ≡ flat.ended status stop.input (trace_of stop.history) =
      ap (behind made.code input) sum ∙ (run_both made.code c.0 (k - c.0) (flat.start made.code input) ∙ ap (λ x. flat.goes_on x (flat.run made.code (k - c.0))) c.2) in
      let both = sym e ∙ whole in cc)
      (cases_lt k c.0)

  at_ending : (n k : ℕ) (e : Ending) (s : flat.State) → pace * k ≤ n → IsDefined e → cstep n p input ≡ Stops e (last_of (cstep n p input)) → behind made.code input k ≡ flat.running s → AsMeant s
  at_ending n k (Ended status) s enough ok stops e = at_end n status s stops k e
  at_ending n k (Undefined act there) s enough ok stops e = absurd ok
  at_ending n k TicksUsed s enough ok stops e = at_ticks n k s enough stops e

  pub as_meant : (k : ℕ) (s : flat.State) → behind made.code input k ≡ flat.running s → AsMeant s
  as_meant k s e = let n : ℕ = pace * k in at_ending n k (ending_of (cstep n p input)) s (omega arith) (fine n).0 (run_stops n p input) e

pub files_call_as_meant : FilesCallAsMeant
files_call_as_meant stack p file frames made input bytes fine k s e = as_meant stack p file frames made input bytes fine k s e
