use Rattle.select_correct.proofs.Table as laws
use Rattle.select_correct.proofs.spent_is_more.Goals as goal

pub returns : goal.returns
returns c = laws.spent_is_more
