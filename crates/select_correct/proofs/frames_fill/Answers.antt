use Rattle.select_correct.proofs.Frames as laws
use Rattle.select_correct.proofs.frames_fill.Goals as goal

pub returns : goal.returns
returns c = laws.sum_is
