use Rattle.verify_theorem.proofs.Joined as laws
use Rattle.verify_theorem.proofs.theorem_by_frames.Goals as goal

pub returns : goal.returns
returns c = laws.theorem_by_frames
