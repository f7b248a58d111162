-- All frames of flat code's run fit the stack where the abstract machine's calls do.
use Rattle.std.proofs.Common.{◌≡◌, ⊎_elim, ℕ, ◌+◌, ◌-◌, ◌*◌, ◌≤◌, List, refl, sym, ap, ◌∙◌, subst, arith}
use Rattle.std.proofs.lemmas.Bool.{cases_lt}
use Rattle.typing_spec.specs.Program as typed
use Rattle.csem.specs.History.{trace_of, active, weight_in, greatest_sum}
use Rattle.csem.specs.Machine as machine
use Rattle.csem.specs.Machine.{Stops, Ended, TicksUsed}
use Rattle.csem.specs.Meaning.{cstep, last_of}
use Rattle.tac_code.specs.Sound.{AreBytes}
use Rattle.frames_code.specs.Code as flat
use Rattle.frames_code.specs.Run as flat_run
use Rattle.frames.specs.Flattened.{behind}
use Rattle.frames_correct.proofs.Runs.{run_both}
use Rattle.cc_backend.specs.FlatImages.{FitStack}
use Rattle.frames_layout.specs.LaidOut.{pace}
use Rattle.cc_backend.specs.Made.{IsFlatCodeOf}
use Rattle.cc_backend.specs.Convention.{FramesAreWeighed}
use Rattle.cc_backend.proofs.Forms.{frame_within, frames_fit}
use Rattle.cc_backend.specs.Simulation.{Doing, Done, AreWithin}
use Rattle.cc_backend.specs.Chain.{of_program, of_flat}
use Rattle.cc_backend.proofs.Chain.{flat_simulates_program, calls_are_within}
use Rattle.cc_backend.proofs.Making.{way_of, form_of}

module _ (p : typed.Program) (f : flat.Program) (input : List ℕ) (code : IsFlatCodeOf p f) (bytes : AreBytes input) where
  -- up to step m, where the calls are those of moments of n ticks
  fit : (n m : ℕ) → ((calls : List ℕ) → (of_flat f input).Calls m calls → (of_program p input).Calls n calls) → (limit : ℕ) → AreWithin (weight_in p) limit (of_program p input) n
      → (k : ℕ) → k ≤ m → FitStack limit f (behind f input k)
  fit n m its limit small k le =
      frames_fit (weight_in p) f code.sound (frame_within p code.code f code.lowered (form_of p f code)) limit input k (behind f input k) refl
      (λ s e. small (flat_run.active s) (its (flat_run.active s) (k, s, le, e, refl)))

  goes : (n : ℕ) (s : machine.State) → cstep n p input ≡ Stops TicksUsed s → (k : ℕ) → pace * k ≤ n → FitStack (greatest_sum (weight_in p) s.history) f (behind f input k)
  goes n s over k le =
      let most = greatest_sum (weight_in p) s.history in
      let small = calls_are_within p input most n (subst (λ r. greatest_sum (weight_in p) (last_of r).history ≤ most) (sym over) (omega arith)) in
      let x : Doing = record { trace = trace_of s.history; input = s.input; calls = active s.history } in
      let c = (flat_simulates_program (weight_in p) most p f input (way_of p f code) bytes).goes_on n x (s, over, refl, refl, refl) small in
      fit n c.0 c.5 most small k (omega (arith, le, c.1))

  ends : (n status : ℕ) (s : machine.State) → cstep n p input ≡ Stops (Ended status) s → (k : ℕ) → FitStack (greatest_sum (weight_in p) s.history) f (behind f input k)
  ends n status s over k =
      let most = greatest_sum (weight_in p) s.history in
      let small = calls_are_within p input most n (subst (λ r. greatest_sum (weight_in p) (last_of r).history ≤ most) (sym over) (omega arith)) in
      let x : Done = record { status = status; trace = trace_of s.history; input = s.input } in
      let c = (flat_simulates_program (weight_in p) most p f input (way_of p f code) bytes).ends n x (s, over, refl, refl) small in
      ⊎_elim
      (λ lt. fit n c.0 c.3 most small k (omega (arith, lt)))
      (λ ge.
      let sum : k ≡ c.0 + (k - c.0) = omega (arith, ge) in
      let whole : behind f input k ≡ flat_run.ended status s.input (trace_of s.history) =
      ap (behind f input) sum ∙ (run_both f c.0 (k - c.0) (flat_run.start f input) ∙ ap (λ x. flat_run.goes_on x (flat_run.run f (k - c.0))) c.2) in
      subst (FitStack most f) (sym whole) tt)
      (cases_lt k c.0)

pub frames_are_weighed : FramesAreWeighed
frames_are_weighed p f input code bytes = (goes p f input code bytes, ends p f input code bytes)
