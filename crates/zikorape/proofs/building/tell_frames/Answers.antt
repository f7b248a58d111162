use Rattle.std.proofs.Common.{[], map, inl, inr, refl, ap, ◌∙◌}
use Rattle.cc.specs.Compiled.{shown_entry}
use Rattle.zikorape.specs.Answered.{entries_text, frames_text}
use Rattle.zikorape.proofs.HandingOut.{handed, hands_out}
use Rattle.zikorape.proofs.building.tell_frames.Goals as goal

pub returns-in-Ok-entries_text : goal.returns-in-Ok-entries_text
returns-in-Ok-entries_text c =
    handed _ _ _ _ (frames_text c.in-Ok.built) []
    (c.as_slice-in-Ok-entries_text.ensures.value ∙ c.in-Ok-entries_text.ensures ∙ ap (λ es. entries_text (map shown_entry es)) c.as_slice.ensures.value)
    c.hand_out.ensures.output c.hand_out.ensures.message
    (inl (refl, refl, (c.in-Ok.built, c.in-Ok.ensures.made, refl)))

pub returns : goal.returns
returns c = hands_out _ _ _ _ c.hand_fault.ensures (λ output line m. inr (inl (refl, m.0, (c.in-Err.fault, c.in-Err.ensures.refused, m.1))))
