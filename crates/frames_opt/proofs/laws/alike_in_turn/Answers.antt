use Rattle.frames_opt.proofs.InTurn as laws
use Rattle.frames_opt.proofs.laws.alike_in_turn.Goals as goal

pub returns : goal.returns
returns c = laws.alike_in_turn
