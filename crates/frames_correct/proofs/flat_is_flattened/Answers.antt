use Rattle.frames_correct.proofs.Whole as laws
use Rattle.frames_correct.proofs.flat_is_flattened.Goals as goal

pub returns : goal.returns
returns c = laws.flat_is_flattened
