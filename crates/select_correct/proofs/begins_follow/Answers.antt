use Rattle.select_correct.proofs.Whole as laws
use Rattle.select_correct.proofs.begins_follow.Goals as goal

pub returns : goal.returns
returns c = laws.begins
