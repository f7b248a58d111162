use Rattle.interp_store.proofs.Resumes.{run_begins}
use Rattle.interp_store.proofs.Adequate.{real}
use Rattle.interp_store.proofs.laws.run_begins.Goals as goal

pub returns : goal.returns
returns c = λ p n input. run_begins p (real p) n input
