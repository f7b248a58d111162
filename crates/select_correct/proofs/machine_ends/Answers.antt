use Rattle.select_correct.proofs.Real as laws
use Rattle.select_correct.proofs.machine_ends.Goals as goal

pub returns : goal.returns
returns c = laws.ends_so
