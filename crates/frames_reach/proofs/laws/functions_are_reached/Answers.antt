use Rattle.frames_reach.proofs.Whole.{reached_is_simplified}
use Rattle.frames_reach.proofs.laws.functions_are_reached.Goals as goal

pub returns : goal.returns
returns c = reached_is_simplified
