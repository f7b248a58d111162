use Rattle.frames_opt.proofs.InTurn as laws
use Rattle.frames_opt.proofs.laws.defined_alike.Goals as goal

pub returns : goal.returns
returns c = laws.defined_alike
