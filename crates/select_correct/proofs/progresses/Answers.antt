use Rattle.select_correct.proofs.Progress as laws
use Rattle.select_correct.proofs.progresses.Goals as goal

pub returns : goal.returns
returns c = laws.progresses
