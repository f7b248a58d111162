use Rattle.select_exec.proofs.Worlds.{real_follows}
use Rattle.select_exec.proofs.text_stays.Goals as goal

pub returns : goal.returns
returns c = real_follows
