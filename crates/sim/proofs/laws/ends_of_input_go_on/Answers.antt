use Rattle.sim.proofs.Ticks.{got_end}
use Rattle.sim.proofs.laws.ends_of_input_go_on.Goals as goal

pub returns : goal.returns
returns c = got_end
