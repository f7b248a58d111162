use Rattle.frames_correct.proofs.Whole as laws
use Rattle.frames_correct.proofs.step_follows.Goals as goal

pub returns : goal.returns
returns c = laws.step_follows
