use Rattle.sim.proofs.Ticks.{tick_is}
use Rattle.sim.proofs.laws.ticks_are_steps.Goals as goal

pub returns : goal.returns
returns c = tick_is
