use Rattle.sim.proofs.Ticks.{refused}
use Rattle.sim.proofs.laws.refusals_change_nothing.Goals as goal

pub returns : goal.returns
returns c = refused
