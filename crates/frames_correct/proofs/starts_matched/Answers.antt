use Rattle.frames_correct.proofs.Whole as laws
use Rattle.frames_correct.proofs.starts_matched.Goals as goal

pub returns : goal.returns
returns c = laws.starts_matched
