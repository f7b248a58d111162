use Rattle.sim.proofs.Composing.{rvrun-add}
use Rattle.sim.proofs.laws.runs_compose.Goals as goal

pub returns : goal.returns
returns c j k w = rvrun-add j k w
