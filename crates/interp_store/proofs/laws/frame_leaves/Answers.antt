use Rattle.interp_store.proofs.Resumes.{frame_leaves}
use Rattle.interp_store.proofs.laws.frame_leaves.Goals as goal

pub returns : goal.returns
returns c = λ p call real. frame_leaves p call real
