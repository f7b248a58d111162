use Rattle.frames_regalloc.proofs.Whole as laws
use Rattle.frames_regalloc.proofs.laws.calls_alike.Goals as goal

pub returns : goal.returns
returns c = laws.calls_alike
