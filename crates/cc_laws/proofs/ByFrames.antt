-- A file runs as its program does if its frames fit the stack.
use Rattle.std.proofs.Common.{◌≡◌, ◌≤◌, ◌<◌, ℕ, suc, ◌+◌, ◌-◌, ◌*◌, List, length, map, Ok, refl, sym, ap, ◌∙◌, subst, ⊎_elim, arith}
use Rattle.std.specs.Prelude.{slice_get}
use Rattle.std.proofs.Math.Nat.{suc-mul}
use Rattle.std.proofs.lemmas.Bool.{cases_lt}
use Rattle.loader.specs.File.{file_image}
use Rattle.elf_out.specs.Program.{program_image}
use Rattle.elf_out.proofs.Memory.{written_image}
use Rattle.typing_spec.specs.Program.{Program}
use Rattle.csem.specs.History.{trace_of, active, greatest_sum}
use Rattle.csem.specs.Machine.{State, Ending, Stops, Ended, Undefined, TicksUsed}
use Rattle.csem.specs.Meaning.{cstep, ending_of, last_of}
use Rattle.frames_code.specs.Code as flat
use Rattle.frames_code.specs.Code.{frame_bytes}
use Rattle.frames_code.specs.Run as flat_run
use Rattle.frames_code.specs.Run.{function_at}
use Rattle.frames.specs.Flattened.{behind}
use Rattle.frames_correct.proofs.Runs.{run_both}
use Rattle.cc_backend.specs.Runs.{IsInput}
use Rattle.cc_backend.specs.FlatImages.{FitStack}
use Rattle.frames_layout.specs.LaidOut.{pace}
use Rattle.cc_backend.specs.Made.{IsFileOf}
use Rattle.cc_backend.specs.Simulation.{Doing, Done, AreWithin, Simulates, both}
use Rattle.cc_backend.specs.Chain.{of_program, of_flat, of_image, into_flat, into_file}
use Rattle.cc_backend.proofs.Simulation.{compose}
use Rattle.cc_backend.proofs.Chain.{frame_known, flat_simulates_program, image_simulates_flat, calls_weigh_within}
use Rattle.cc_backend.proofs.Making.{way_of}
use Rattle.cc_backend.proofs.Forms.{frames_fit}
use Rattle.cc_laws.specs.Laws.{IsDefined, HasImage, CallsAreKept, MainIsKept}
use Rattle.cc_laws.specs.Frames.{frame_in, StaysWithinFrames, RunsWithinFrames, FilesRunWithinFrames}
use Rattle.cc_laws.proofs.Clock.{run_stops}
use Rattle.cc_laws.proofs.Conventions.{convention}

past : (n a k : ℕ) → n ≤ a * k → 1 ≤ k → n < suc a * k
past n a k le some = let whole : suc a * k ≡ a * k + k = suc-mul a k in omega (arith, le, some, whole)

module _ (stack : ℕ) (p : Program) (file frames : List ℕ) (made : IsFileOf stack p file frames) (input : List ℕ) (bytes : IsInput input) where
  abbrev code : flat.Program
  code = made.code

  abbrev own : List ℕ
  own = map frame_bytes code.functions

  abbrev terms : ℕ
  terms = (both into_flat (into_file code)).slack

  pub own_frame : (g : ℕ) → g < length code.functions → frame_bytes (function_at code g) ≤ frame_in own g
  own_frame g lt = let e = frame_known code g (slice_get code.functions g) refl lt in omega (arith, e)

  simulates : Simulates (both into_flat (into_file code)) (frame_in own) made.parts.stack (of_program p input) (of_image own (program_image made.parts) input)
  simulates =
      compose into_flat (into_file code) (frame_in own) made.parts.stack (of_program p input) (of_flat code input) (of_image own (program_image made.parts) input)
      (flat_simulates_program (frame_in own) made.parts.stack p code input (way_of p code made.code_is) bytes)
      (image_simulates_flat (frame_in own) code made.parts input made.image_is bytes own_frame)

  fit : (n : ℕ) (r : State) → (last_of (cstep n p input)) ≡ r → greatest_sum (frame_in own) r.history ≤ made.parts.stack → AreWithin (frame_in own) made.parts.stack (of_program p input) n
  fit n r e small = calls_weigh_within (frame_in own) p input made.parts.stack n (subst (λ z. greatest_sum (frame_in own) z.history ≤ made.parts.stack) (sym e) small)

  runs : RunsWithinFrames made.parts.stack p own (program_image made.parts) input
  runs = record {
    ends = λ n status s over small.
        let x : Done = record { status = status; trace = trace_of s.history; input = s.input } in
        let w = simulates.ends n x (s, over, refl, refl) (fit n s (ap last_of over) small) in
        (w.0, w.2.0, omega (arith, w.1), (w.2.1, (w.2.2, w.2.3)));
    slack = suc terms;
    goes_on = λ n s over small.
        let x : Doing = record { trace = trace_of s.history; input = s.input; calls = active s.history } in
        let w = simulates.goes_on n x (s, over, refl, refl, refl) (fit n s (ap last_of over) small) in
        (w.0, w.4.0, omega (arith, w.3), (past n terms w.0 w.1 w.2, (w.4.1, (w.4.2, w.4.3), w.4.4)));
    stops = λ n act at s over small.
        let x : Doing = record { trace = trace_of s.history; input = s.input; calls = active s.history } in
        let w = simulates.halts n x (act, at, s, over, refl, refl, refl) (fit n s (ap last_of over) small) in
        (w.0, w.2.0, omega (arith, w.1), (w.2.1, (w.2.2, w.2.3), w.2.4));
  }

  pub runs_within : RunsWithinFrames stack p frames (program_image made.parts) input
  runs_within =
      subst (λ n. RunsWithinFrames n p frames (program_image made.parts) input) made.stack_is
      (subst (λ xs. RunsWithinFrames made.parts.stack p xs (program_image made.parts) input) (sym made.frames_are) runs)

pub files_run_within_frames : FilesRunWithinFrames
files_run_within_frames stack p file frames made =
    let image = program_image made.parts in (
      image,
      subst (λ f. file_image f ≡ Ok image) (sym made.file_is) (written_image made.parts made.image_is.size made.image_is.stack.2),
      λ input bytes. runs_within stack p file frames made input bytes,
    )

-- ---- all frames of the run of flat code

module _ (stack : ℕ) (p : Program) (file frames : List ℕ) (made : IsFileOf stack p file frames) (input : List ℕ) (bytes : IsInput input) (fine : StaysWithinFrames stack frames p input) where
  abbrev flat_code : flat.Program
  flat_code = made.code

  abbrev sizes : List ℕ
  sizes = map frame_bytes made.code.functions

  within : (n : ℕ) → AreWithin (frame_in sizes) made.parts.stack (of_program p input) n
  within n =
      let taken : greatest_sum (frame_in sizes) (last_of (cstep n p input)).history ≤ stack = subst (λ xs. greatest_sum (frame_in xs) (last_of (cstep n p input)).history ≤ stack) made.frames_are (fine n).1 in
      calls_weigh_within (frame_in sizes) p input made.parts.stack n (subst (λ k. greatest_sum (frame_in sizes) (last_of (cstep n p input)).history ≤ k) (sym made.stack_is) taken)

  -- up to step m, if the calls are those of moments within n ticks
  fit_up_to : (n m : ℕ) → ((calls : List ℕ) → (of_flat flat_code input).Calls m calls → (of_program p input).Calls n calls) → (k : ℕ) → k ≤ m → FitStack made.parts.stack flat_code (behind flat_code input k)
  fit_up_to n m its k le =
      frames_fit (frame_in sizes) flat_code made.code_is.sound (own_frame stack p file frames made input bytes) made.parts.stack input k (behind flat_code input k) refl
      (λ s e. within n (flat_run.active s) (its (flat_run.active s) (k, s, le, e, refl)))

  -- where the abstract machine has used n ticks, which are enough for k steps
  fits_going : (n k : ℕ) (s : State) → pace * k ≤ n → cstep n p input ≡ Stops TicksUsed s → FitStack made.parts.stack flat_code (behind flat_code input k)
  fits_going n k s enough over =
      let x : Doing = record { trace = trace_of s.history; input = s.input; calls = active s.history } in
      let c = (flat_simulates_program (frame_in sizes) made.parts.stack p flat_code input (way_of p flat_code made.code_is) bytes).goes_on n x (s, over, refl, refl, refl) (within n) in
      fit_up_to n c.0 c.5 k (omega (arith, enough, c.1))

  fits_ended : (n k status : ℕ) (s : State) → cstep n p input ≡ Stops (Ended status) s → FitStack made.parts.stack flat_code (behind flat_code input k)
  fits_ended n k status s over =
      let x : Done = record { status = status; trace = trace_of s.history; input = s.input } in
      let c = (flat_simulates_program (frame_in sizes) made.parts.stack p flat_code input (way_of p flat_code made.code_is) bytes).ends n x (s, over, refl, refl) (within n) in
      ⊎_elim
      (λ lt. fit_up_to n c.0 c.3 k (omega (arith, lt)))
      (λ ge.
      let sum : k ≡ c.0 + (k - c.0) = omega (arith, ge) in
      let whole : behind flat_code input k ≡ flat_run.ended status s.input (trace_of s.history) =
      ap (behind flat_code input) sum ∙ (run_both flat_code c.0 (k - c.0) (flat_run.start flat_code input) ∙ ap (λ x. flat_run.goes_on x (flat_run.run flat_code (k - c.0))) c.2) in
      subst (FitStack made.parts.stack flat_code) (sym whole) tt)
      (cases_lt k c.0)

  fits_at : (n k : ℕ) (e : Ending) → pace * k ≤ n → IsDefined e → cstep n p input ≡ Stops e (last_of (cstep n p input)) → FitStack made.parts.stack flat_code (behind flat_code input k)
  fits_at n k (Ended status) enough ok stops = fits_ended n k status (last_of (cstep n p input)) stops
  fits_at n k (Undefined act there) enough ok stops = absurd ok
  fits_at n k TicksUsed enough ok stops = fits_going n k (last_of (cstep n p input)) enough stops

  pub fits_within : (k : ℕ) → FitStack made.parts.stack flat_code (behind flat_code input k)
  fits_within k = let n : ℕ = pace * k in fits_at n k (ending_of (cstep n p input)) (omega arith) (fine n).0 (run_stops n p input)

-- if the frames of the active calls are within the stack, each call and main keep the convention
pub files_keep_convention_within_frames : (stack : ℕ) (p : Program) (file frames : List ℕ) (made : IsFileOf stack p file frames)
    → HasImage file (λ image. (input : List ℕ) → IsInput input → StaysWithinFrames stack frames p input → CallsAreKept made image input × MainIsKept made image input)
files_keep_convention_within_frames stack p file frames made =
    let image = program_image made.parts in (
      image,
      subst (λ f. file_image f ≡ Ok image) (sym made.file_is) (written_image made.parts made.image_is.size made.image_is.stack.2),
      λ input bytes fine. convention stack p file frames made input bytes (fits_within stack p file frames made input bytes fine),
    )
