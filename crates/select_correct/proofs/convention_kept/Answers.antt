use Rattle.select_correct.proofs.Whole as laws
use Rattle.select_correct.proofs.convention_kept.Goals as goal

pub returns : goal.returns
returns c = laws.convention
