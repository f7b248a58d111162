use Rattle.interp_store.proofs.Resumes.{node_enters}
use Rattle.interp_store.proofs.laws.node_enters.Goals as goal

pub returns : goal.returns
returns c = λ p call real. node_enters p call real
