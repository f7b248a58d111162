use Rattle.select_correct.proofs.Real as laws
use Rattle.select_correct.proofs.machine_goes_on.Goals as goal

pub returns : goal.returns
returns c = laws.goes_on
