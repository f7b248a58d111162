use Rattle.select_correct.proofs.Whole as laws
use Rattle.select_correct.proofs.none_is_above.Goals as goal

pub returns : goal.returns
returns c = laws.unwatched
