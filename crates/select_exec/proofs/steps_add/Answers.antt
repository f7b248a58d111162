use Rattle.select_exec.proofs.Steps as laws
use Rattle.select_exec.proofs.steps_add.Goals as goal

pub returns : goal.returns
returns c = laws.run_plus
