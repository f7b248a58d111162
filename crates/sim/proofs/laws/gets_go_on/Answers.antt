use Rattle.sim.proofs.Ticks.{got_byte}
use Rattle.sim.proofs.laws.gets_go_on.Goals as goal

pub returns : goal.returns
returns c = got_byte
