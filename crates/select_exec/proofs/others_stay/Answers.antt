use Rattle.select_exec.proofs.Words as laws
use Rattle.select_exec.proofs.others_stay.Goals as goal

pub returns : goal.returns
returns c = laws.with_other
