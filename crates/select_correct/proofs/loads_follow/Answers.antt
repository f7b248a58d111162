use Rattle.select_correct.proofs.Accesses as laws
use Rattle.select_correct.proofs.loads_follow.Goals as goal

pub returns : goal.returns
returns c = laws.load_follows
