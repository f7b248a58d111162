use Rattle.sim.proofs.Composing.{run_goes_on}
use Rattle.sim.proofs.laws.runs_go_on.Goals as goal

pub returns : goal.returns
returns c = run_goes_on
