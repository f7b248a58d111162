-- The flat code of a program, as the way and as the form that it has.
use Rattle.typing_spec.specs.Program as typed
use Rattle.frames_code.specs.Code as flat
use Rattle.frames.specs.Translated.{flat_program}
use Rattle.frames_correct.proofs.Whole.{flat_is_flattened}
use Rattle.cc_backend.specs.Made.{IsFlatCodeOf}
use Rattle.cc_backend.specs.Forms.{IsFormOf}
use Rattle.cc_backend.specs.Chain.{IsMadeOf}
use Rattle.cc_backend.proofs.Optimising.{optimised_form}
use Rattle.cc_backend.proofs.Renumbering.{renumbered_form}

pub way_of : (p : typed.Program) (f : flat.Program) → IsFlatCodeOf p f → IsMadeOf p f
way_of p f made = record {
  code = made.code;
  lowered = made.lowered;
  plain = flat_program made.code;
  flattened = flat_is_flattened made.code made.lowered.sound;
  simpler = made.simpler;
  better = made.better;
  renumbered = made.renumbered;
}

pub form_of : (p : typed.Program) (f : flat.Program) → (made : IsFlatCodeOf p f) → IsFormOf made.code f
form_of p f made =
    renumbered_form made.code made.simpler f (optimised_form made.code (flat_program made.code) made.simpler (flat_is_flattened made.code made.lowered.sound) made.better) made.renumbered
