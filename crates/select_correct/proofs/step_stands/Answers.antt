use Rattle.select_correct.proofs.Real.{step_stands}
use Rattle.select_correct.proofs.step_stands.Goals as goal

pub returns : goal.returns
returns c = step_stands
