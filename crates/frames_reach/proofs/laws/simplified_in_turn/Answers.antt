use Rattle.frames_reach.proofs.InTurn as laws
use Rattle.frames_reach.proofs.laws.simplified_in_turn.Goals as goal

pub returns : goal.returns
returns c = laws.simplified_in_turn
