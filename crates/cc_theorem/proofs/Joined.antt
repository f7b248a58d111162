-- The laws of a built file, together.
use Rattle.std.proofs.Common.{◌≡◌, ℕ, List, Ok, sym, ◌∙◌, subst}
use Rattle.srcset.specs.NameTable.{Texts}
use Rattle.tree.specs.Tree.{ExternalTree}
use Rattle.loader.specs.File.{Image, file_image}
use Rattle.typing_spec.specs.Program.{Program}
use Rattle.typing_spec.specs.Verdict.{fine}
use Rattle.cc_backend.specs.Runs.{RunsAs, IsInput}
use Rattle.cc_backend.specs.Made.{IsFileOf}
use Rattle.cc.specs.Compiled.{typed_at}
use Rattle.cc_laws.specs.Laws.{StaysDefined, HasImage, HasMain, CallsAreKept, MainIsKept, TouchesNothingBelow}
use Rattle.cc_laws.proofs.Instants.{Serves, by_weights, by_frames}
use Rattle.cc_laws.proofs.Whole as whole
use Rattle.cc_laws.proofs.Mains.{units_have_main}
use Rattle.cc_laws.proofs.Made.{files_are_laid_out}
use Rattle.cc_laws.proofs.Conventions.{files_keep_convention}
use Rattle.cc_laws.specs.Words.{CallsPassWords}
use Rattle.cc_laws.proofs.Words.{files_pass_words, files_pass_words_within_frames}
use Rattle.cc_laws.proofs.Overflowing.{files_go_up_to_overflow}
use Rattle.cc_laws.proofs.ByFrames.{files_run_within_frames, files_keep_convention_within_frames}
use Rattle.cc_laws.proofs.Inputs.{does_all_so_far}
use Rattle.cc_laws.proofs.Reserved.{files_leave_reserved}
use Rattle.cc_laws.proofs.NothingBelow.{files_touch_nothing_below, files_touch_nothing_below_within_frames}
use Rattle.cc_theorem.specs.Theorem.{DoesTheSame, TheTheorem}

-- a file has one image
of_one : (file : List ℕ) (Promise : Image → Type 0) → (has : HasImage file Promise) → (image : Image) → file_image file ≡ Ok image → Promise image
of_one file Promise has image loads =
    let both = sym has.1 ∙ loads in
    let same : has.0 ≡ image = cc in
    subst Promise same has.2

main_at : (stack : ℕ) (texts : Texts) (file : ℕ) (unit : List ExternalTree) (p : Program) → typed_at stack texts file unit ≡ fine p → HasMain p
unfolding typed_at
main_at stack texts file unit p e = units_have_main stack texts (record { file = file; line = 1 }) unit p e

same : (stack : ℕ) (p : Program) (file frames : List ℕ) (made : IsFileOf stack p file frames) (image : Image) (input : List ℕ) → Serves p image input
    → CallsAreKept made image input × MainIsKept made image input → CallsPassWords p made image input → TouchesNothingBelow made.parts image input → DoesTheSame made image input
same stack p file frames made image input m convention words below = record {
  does_all = whole.all_done p image input m;
  does_no_more = whole.no_more_done p image input m;
  ends_only_so = whole.ends_as_meant p image input m;
  never_traps = whole.traps_nowhere p image input m;
  stays_inside = whole.always_inside p image input m;
  calls_are_kept = convention.0;
  main_is_kept = convention.1;
  calls_pass_words = words;
  touches_nothing_below = below;
}

-- the image from which the file runs suffices
serves : (stack : ℕ) (p : Program) (frames file : List ℕ) → RunsAs stack p frames file → HasImage file (λ image. (input : List ℕ) → IsInput input → StaysDefined stack p input → Serves p image input)
serves stack p frames file r = (r.image, r.loads, λ input bytes fine. by_weights stack p frames file r input bytes fine)

pub theorem : TheTheorem
theorem stack set name built made =
    let file = built.elf.items in
    let p = made.compiles.program in
    let frames = made.compiles.builds.frames in
    let runs : RunsAs stack p frames file = made.compiles.builds.runs in
    let typed = made.compiles.has_program.is_program in
    let main : HasMain p = main_at stack made.compiles.texts typed.file made.compiles.unit p typed.typed in
    let out = files_are_laid_out stack p file frames made.file in
    let image = out.0 in
    let loads = out.1 in (
      image,
      loads,
      (
        out.2.0,
        out.2.1,
        λ input bytes. record {
          within_stack = λ fine.
              same stack p file frames made.file image input (of_one file _ (serves stack p frames file runs) image loads input bytes fine) (of_one file _ (files_keep_convention stack p file frames made.file) image loads input bytes fine)
              (of_one file _ (files_pass_words stack p file frames made.file) image loads input bytes fine)
              (of_one file _ (files_touch_nothing_below stack p file frames made.file) image loads input bytes fine);
          within_frames = λ fine.
              same stack p file frames made.file image input (by_frames stack p frames image input (of_one file _ (files_run_within_frames stack p file frames made.file) image loads input bytes) fine)
              (of_one file _ (files_keep_convention_within_frames stack p file frames made.file) image loads input bytes fine)
              (of_one file _ (files_pass_words_within_frames stack p file frames made.file) image loads input bytes fine)
              (of_one file _ (files_touch_nothing_below_within_frames stack p file frames made.file) image loads input bytes fine);
          beyond_stack = λ fine. of_one file _ (files_go_up_to_overflow stack p file frames made.file) image loads input bytes fine;
          by_frames = of_one file _ (files_run_within_frames stack p file frames made.file) image loads input bytes;
          so_far = of_one file _ (does_all_so_far stack p frames file runs) image loads input bytes;
          in_time = of_one file _ (whole.ends_in_time stack p frames file runs main) image loads input bytes;
          reserved = of_one file _ (files_leave_reserved stack p file frames made.file) image loads input;
        },
      ),
    )
