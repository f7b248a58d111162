use Rattle.interp_store.proofs.Resumes.{call_acts}
use Rattle.interp_store.proofs.laws.call_acts.Goals as goal

pub returns : goal.returns
returns c = λ p call real. call_acts p call real
