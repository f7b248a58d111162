use Rattle.select_correct.proofs.Standing as laws
use Rattle.select_correct.proofs.matched_stands.Goals as goal

pub returns : goal.returns
returns c = laws.stands_with
