use Rattle.select_correct.proofs.Forms as laws
use Rattle.select_correct.proofs.branches_follow.Goals as goal

pub returns : goal.returns
returns c = laws.branch_follows
