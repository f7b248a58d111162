use Rattle.std.proofs.Common.{inr, refl}
use Rattle.zikorape.proofs.HandingOut.{hands_out, told}
use Rattle.zikorape.proofs.refusing.refuse.Goals as goal

pub returns-in-Told : goal.returns-in-Told
returns-in-Told c given h =
    hands_out _ _ _ _ c.hand_fault.ensures (λ output line m. inr (refl, m.0, (c.in-Told.fault, told given.texts given.lengths c.args.refusal.now c.in-Told.fault c.in-Told.is h, m.1)))
