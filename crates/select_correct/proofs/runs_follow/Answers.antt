use Rattle.select_correct.proofs.Steps as laws
use Rattle.select_correct.proofs.runs_follow.Goals as goal

pub returns : goal.returns
returns c = laws.runs_follow
