use Rattle.frames.proofs.Apart as apart
use Rattle.frames.proofs.laws.starts_are_apart.Goals as goal

pub returns : goal.returns
returns c = apart.starts_are_apart
