use Rattle.select_correct.proofs.Accesses as laws
use Rattle.select_correct.proofs.stores_follow.Goals as goal

pub returns : goal.returns
returns c = laws.store_follows
