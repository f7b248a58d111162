use Rattle.frames.proofs.Apart as apart
use Rattle.frames.proofs.laws.arrays_are_apart.Goals as goal

pub returns : goal.returns
returns c = record { apart = apart.arrays_are_apart; inside = apart.arrays_are_inside }
