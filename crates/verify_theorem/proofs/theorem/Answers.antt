use Rattle.verify_theorem.proofs.Joined as laws
use Rattle.verify_theorem.proofs.theorem.Goals as goal

pub returns : goal.returns
returns c = laws.theorem
