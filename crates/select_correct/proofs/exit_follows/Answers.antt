use Rattle.select_correct.proofs.Computing as laws
use Rattle.select_correct.proofs.exit_follows.Goals as goal

pub returns : goal.returns
returns c = laws.exit_follows
