use Rattle.sim.proofs.Ticks.{put_byte}
use Rattle.sim.proofs.laws.puts_go_on.Goals as goal

pub returns : goal.returns
returns c = put_byte
