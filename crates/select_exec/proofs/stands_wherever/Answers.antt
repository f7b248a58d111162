use Rattle.select_exec.proofs.Placing.{stands_in}
use Rattle.select_exec.proofs.stands_wherever.Goals as goal

pub returns : goal.returns
returns c = stands_in
