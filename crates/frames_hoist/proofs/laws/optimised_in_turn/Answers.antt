use Rattle.frames_hoist.proofs.InTurn as laws
use Rattle.frames_hoist.proofs.laws.optimised_in_turn.Goals as goal

pub returns : goal.returns
returns c = laws.optimised_in_turn
