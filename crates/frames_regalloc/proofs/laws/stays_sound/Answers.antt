use Rattle.frames_regalloc.proofs.Soundness as laws
use Rattle.frames_regalloc.proofs.laws.stays_sound.Goals as goal

pub returns : goal.returns
returns c = laws.stays_sound
