use Rattle.select_correct.proofs.Forms as laws
use Rattle.select_correct.proofs.nothing_follows.Goals as goal

pub returns : goal.returns
returns c = laws.nothing_follows
