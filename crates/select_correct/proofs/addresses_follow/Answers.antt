use Rattle.select_correct.proofs.References as laws
use Rattle.select_correct.proofs.addresses_follow.Goals as goal

pub returns : goal.returns
returns c = laws.address_follows
