use Rattle.select_correct.proofs.Reaching as laws
use Rattle.select_correct.proofs.jumps_reach.Goals as goal

pub returns : goal.returns
returns c = laws.jumps_reach
