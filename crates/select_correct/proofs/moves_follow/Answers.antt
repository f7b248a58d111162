use Rattle.select_correct.proofs.Forms as laws
use Rattle.select_correct.proofs.moves_follow.Goals as goal

pub returns : goal.returns
returns c = laws.move_follows
