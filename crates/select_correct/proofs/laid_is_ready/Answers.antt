use Rattle.select_correct.proofs.Laying as laws
use Rattle.select_correct.proofs.laid_is_ready.Goals as goal

pub returns : goal.returns
returns c = laws.is_ready
