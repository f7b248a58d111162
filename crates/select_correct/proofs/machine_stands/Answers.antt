use Rattle.select_correct.proofs.Real.{stands}
use Rattle.select_correct.proofs.machine_stands.Goals as goal

pub returns : goal.returns
returns c = stands
