use Rattle.select_correct.proofs.Environment as laws
use Rattle.select_correct.proofs.get_follows.Goals as goal

pub returns : goal.returns
returns c = laws.get_follows
