use Rattle.frames_leaf.proofs.InTurn as laws
use Rattle.frames_leaf.proofs.laws.allocated_in_turn.Goals as goal

pub returns : goal.returns
returns c = laws.allocated_in_turn
