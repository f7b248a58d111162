use Rattle.select_correct.proofs.Forms as laws
use Rattle.select_correct.proofs.jumps_follow.Goals as goal

pub returns : goal.returns
returns c = laws.jump_follows
