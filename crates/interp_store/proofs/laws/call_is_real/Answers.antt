use Rattle.interp_store.proofs.Adequate.{real}
use Rattle.interp_store.proofs.laws.call_is_real.Goals as goal

pub returns : goal.returns
returns c = real
