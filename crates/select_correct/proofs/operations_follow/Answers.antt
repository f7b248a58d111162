use Rattle.select_correct.proofs.Computing as laws
use Rattle.select_correct.proofs.operations_follow.Goals as goal

pub returns : goal.returns
returns c = laws.compute_follows
