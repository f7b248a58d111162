use Rattle.std.proofs.Common.{[], inl, inr, refl}
use Rattle.zikorape.proofs.HandingOut.{handed, hands_out}
use Rattle.zikorape.proofs.building.build.Goals as goal

pub returns-in-Ok : goal.returns-in-Ok
returns-in-Ok c =
    handed _ _ _ _ c.in-Ok.built.elf.items [] c.as_slice.ensures.value c.hand_out.ensures.output c.hand_out.ensures.message
    (inl (refl, refl, (c.in-Ok.built, c.in-Ok.ensures.made, refl)))

pub returns-in-Err : goal.returns-in-Err
returns-in-Err c = hands_out _ _ _ _ c.hand_fault.ensures (λ output line m. inr (inl (refl, m.0, (c.in-Err.fault, c.in-Err.ensures.refused, m.1))))
