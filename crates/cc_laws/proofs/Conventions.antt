-- The calling convention of a file made of a program.
use Rattle.std.proofs.Common.{◌≡◌, ◌≤◌, ℕ, suc, ◌+◌, List, Some, Ok, sym, ap, ◌∙◌, subst, arith, ◌*◌}
use Rattle.memory_map.specs.MemoryMap.{text_start}
use Rattle.loader.specs.File.{file_image}
use Rattle.elf_out.specs.Program.{program_image}
use Rattle.elf_out.proofs.Memory.{written_image}
use Rattle.frames_code.specs.Code as flat_code
use Rattle.frames_code.specs.declared.code.Instruction.TheVariants as instruction
use Rattle.frames_code.specs.Costs.{next_of}
use Rattle.frames_code.specs.Run as flat
use Rattle.frames_code.specs.Run.{◌>>=◌}
use Rattle.frames_correct.proofs.Runs.{run_both}
use Rattle.select_correct.specs.Convention.{ComesToCall, behind_call}
use Rattle.typing_spec.specs.Program.{Program}
use Rattle.csem.specs.Machine.{Ending, Ended, Undefined, TicksUsed, Stops}
use Rattle.csem.specs.Meaning.{cstep, answer, ending_of, last_of}
use Rattle.cc_backend.specs.Runs.{IsInput}
use Rattle.frames_layout.specs.LaidOut.{pace}
use Rattle.cc_backend.specs.Made.{IsFileOf}
use Rattle.cc_backend.specs.FlatImages.{FitStack}
use Rattle.cc_backend.specs.Convention.{FitsFor}
use Rattle.cc_backend.proofs.FlatImages.{serves_more, calls_keep_convention, main_keeps_convention}
use Rattle.cc_backend.proofs.Conventions.{frames_are_weighed}
use Rattle.cc_laws.specs.Laws.{IsDefined, StaysDefined, run_of, Always, labels, data_of, CallsAreKept, MainIsKept, FilesKeepConvention}
use Rattle.cc_laws.proofs.Callers.{step_is}
use Rattle.cc_laws.proofs.Clock.{run_stops}

fit_more : (few many : ℕ) (f : flat_code.Program) (x : flat.Progress) → few ≤ many → FitStack few f x → FitStack many f x
fit_more few many f (flat.running s) le h = omega (arith, le, h)
fit_more few many f (flat.ended status left trace) le h = tt
fit_more few many f flat.stuck le h = tt

pub called : (p : flat_code.Program) (s : flat.State) (f : ℕ) → next_of p s ≡ Some (instruction.Call f) → flat.step p s ≡ flat.running (flat.entered s f)
called p s f e = step_is p s ∙ ap (λ o. o >>= flat.act p s) e

-- if all frames of the run of flat code fit the stack, each call and main keep the convention
module _ (stack : ℕ) (p : Program) (file frames : List ℕ) (made : IsFileOf stack p file frames) (input : List ℕ) (bytes : IsInput input)
    (fits : (k : ℕ) → FitStack made.parts.stack made.code (flat.run made.code k (flat.start made.code input))) where
  abbrev code : flat_code.Program
  code = made.code

  abbrev at : ℕ → flat.Progress
  at k = flat.run code k (flat.start code input)

  -- the result of a call is the state of the run after it
  inner_fits : (n f : ℕ) (s : flat.State) → ComesToCall code input n f s → (j : ℕ) → FitStack made.parts.stack code (flat.run code j (flat.entered s f))
  inner_fits n f s c j =
      let order : suc n + j ≡ n + suc j = omega arith in
      let behind : at (suc n + j) ≡ flat.run code j (flat.entered s f) =
      ap at order ∙ (run_both code n (suc j) (flat.start code input) ∙ (ap (λ x. flat.goes_on x (flat.run code (suc j))) c.runs ∙ ap (λ x. flat.goes_on x (flat.run code j)) (called code s f c.next))) in
      subst (FitStack made.parts.stack code) behind (fits (suc n + j))

  calls : CallsAreKept made (program_image made.parts) input
  calls n f s c =
      serves_more code (labels made) (data_of made) (λ k. run_of (program_image made.parts) input k) (labels made f) (behind_call code (labels made) s) (flat.entered s f) (FitsFor made.parts.stack code (flat.entered s f)) Always
      (λ m all j le. inner_fits n f s c j) (calls_keep_convention code made.parts input made.image_is bytes n f s c (λ k le. fits k))

  main : MainIsKept made (program_image made.parts) input
  main =
      serves_more code (labels made) (data_of made) (λ k. run_of (program_image made.parts) input k) (labels made code.main) (text_start + 24) (flat.start code input) (FitsFor made.parts.stack code (flat.start code input)) Always
      (λ m all j le. fits j) (main_keeps_convention code made.parts input made.image_is bytes (fits 0))

  pub convention : CallsAreKept made (program_image made.parts) input × MainIsKept made (program_image made.parts) input
  convention = (calls, main)

-- this holds if the weights of the active calls are within the stack
module _ (stack : ℕ) (p : Program) (file frames : List ℕ) (made : IsFileOf stack p file frames) (input : List ℕ) (bytes : IsInput input) (fine : StaysDefined stack p input) where
  abbrev run_at : ℕ → flat.Progress
  run_at k = flat.run made.code k (flat.start made.code input)

  -- where the abstract machine has used n ticks, which are enough for k steps
  fits_ending : (n k : ℕ) → pace * k ≤ n → (e : Ending) → IsDefined e → cstep n p input ≡ Stops e (last_of (cstep n p input)) → FitStack stack made.code (run_at k)
  fits_ending n k le (Ended status) ok stops =
      fit_more (answer n p input).greatest stack made.code (run_at k) (fine n).1
      ((frames_are_weighed p made.code input made.code_is bytes).1 n status (last_of (cstep n p input)) stops k)
  fits_ending n k le (Undefined act there) ok stops = absurd ok
  fits_ending n k le TicksUsed ok stops =
      fit_more (answer n p input).greatest stack made.code (run_at k) (fine n).1
      ((frames_are_weighed p made.code input made.code_is bytes).0 n (last_of (cstep n p input)) stops k le)

  pub fits : (k : ℕ) → FitStack made.parts.stack made.code (run_at k)
  fits k =
      let n : ℕ = pace * k in
      subst (λ z. FitStack z made.code (run_at k)) (sym made.stack_is) (fits_ending n k (omega arith) (ending_of (cstep n p input)) (fine n).0 (run_stops n p input))

pub files_keep_convention : FilesKeepConvention
files_keep_convention stack p file frames made =
    let image = program_image made.parts in (
      image,
      subst (λ f. file_image f ≡ Ok image) (sym made.file_is) (written_image made.parts made.image_is.size made.image_is.stack.2),
      λ input bytes fine. convention stack p file frames made input bytes (fits stack p file frames made input bytes fine),
    )
