use Rattle.select_correct.proofs.Steps as laws
use Rattle.select_correct.proofs.step_follows.Goals as goal

pub returns : goal.returns
returns c = laws.step_follows
