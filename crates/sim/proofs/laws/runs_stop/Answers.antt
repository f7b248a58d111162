use Rattle.sim.proofs.Composing.{run_stops}
use Rattle.sim.proofs.laws.runs_stop.Goals as goal

pub returns : goal.returns
returns c = run_stops
