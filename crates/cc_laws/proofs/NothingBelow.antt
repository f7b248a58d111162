-- In the run of a file nothing below the stack pointer is loaded or stored, if the program stays defined.
use Rattle.std.proofs.Common.{◌≡◌, ⊎_elim, ℕ, ◌+◌, ◌-◌, ◌≤◌, List, Ok, refl, sym, ap, ◌∙◌, subst, arith, ◌*◌}
use Rattle.std.proofs.lemmas.Bool.{cases_lt}
use Rattle.loader.specs.File.{file_image}
use Rattle.elf_out.specs.Program.{program_image}
use Rattle.elf_out.proofs.Memory.{written_image}
use Rattle.typing_spec.specs.Program.{Program}
use Rattle.csem.specs.Meaning.{cstep, ending_of}
use Rattle.frames_code.specs.Run as flat
use Rattle.frames_correct.proofs.Runs.{run_both}
use Rattle.cc_backend.specs.Runs.{IsInput}
use Rattle.cc_backend.specs.Made.{IsFileOf}
use Rattle.cc_laws.specs.Laws.{HasImage, TouchesNothingBelow, FilesTouchNothingBelow}
use Rattle.cc_laws.specs.Overflow.{IsAlwaysDefined}
use Rattle.frames_layout.specs.LaidOut.{pace}
use Rattle.cc_laws.specs.Frames.{StaysWithinFrames}
use Rattle.cc_laws.proofs.Below.{all_above}
use Rattle.cc_laws.proofs.Conventions.{fits}
use Rattle.cc_laws.proofs.ByFrames.{fits_within}
use Rattle.cc_laws.proofs.Overflowing.{flat_at}

-- if the program meets no undefined behaviour, flat code is never stuck
module _ (stack : ℕ) (p : Program) (file frames : List ℕ) (made : IsFileOf stack p file frames) (input : List ℕ) (bytes : IsInput input) (fine : IsAlwaysDefined p input) where
  abbrev at : ℕ → flat.Progress
  at n = flat.run made.code n (flat.start made.code input)

  at_later : (n m : ℕ) (x : flat.Progress) → n ≤ m → at n ≡ x → at m ≡ flat.goes_on x (flat.run made.code (m - n))
  at_later n m x le e =
      let sum : m ≡ n + (m - n) = omega (arith, le) in
      ap at sum ∙ (run_both made.code n (m - n) (flat.start made.code input) ∙ ap (λ y. flat.goes_on y (flat.run made.code (m - n))) e)

  never_stuck : (n : ℕ) → at n ≡ flat.stuck → ⊥
  never_stuck n e =
      ⊎_elim
      (λ g. let both = sym g.is ∙ at_later n g.m flat.stuck (omega (arith, g.far)) e in cc)
      (λ d.
      ⊎_elim
      (λ lt. let both = sym d.is ∙ at_later n d.m flat.stuck (omega (arith, lt)) e in cc)
      (λ ge. let both = sym e ∙ at_later d.m n (flat.ended d.status d.left d.trace) ge d.is in cc)
      (cases_lt n d.m))
      (flat_at stack p file frames made input bytes fine (pace * n) (ending_of (cstep (pace * n) p input)) refl (fine (pace * n)))

pub files_touch_nothing_below : FilesTouchNothingBelow
files_touch_nothing_below stack p file frames made =
    let image = program_image made.parts in (
      image,
      subst (λ f. file_image f ≡ Ok image) (sym made.file_is) (written_image made.parts made.image_is.size made.image_is.stack.2),
      λ input bytes fine k w e.
          all_above made.code made.parts made.image_is input bytes (fits stack p file frames made input bytes fine) (never_stuck stack p file frames made input bytes (λ n. (fine n).0)) k w e,
    )

-- or if the frames of the active calls are within the stack
pub files_touch_nothing_below_within_frames : (stack : ℕ) (p : Program) (file frames : List ℕ) (made : IsFileOf stack p file frames)
    → HasImage file (λ image. (input : List ℕ) → IsInput input → StaysWithinFrames stack frames p input → TouchesNothingBelow made.parts image input)
files_touch_nothing_below_within_frames stack p file frames made =
    let image = program_image made.parts in (
      image,
      subst (λ f. file_image f ≡ Ok image) (sym made.file_is) (written_image made.parts made.image_is.size made.image_is.stack.2),
      λ input bytes fine k w e.
          all_above made.code made.parts made.image_is input bytes (fits_within stack p file frames made input bytes fine) (never_stuck stack p file frames made input bytes (λ n. (fine n).0)) k w e,
    )
