use Rattle.cc_theorem.proofs.Joined as laws
use Rattle.cc_theorem.proofs.theorem.Goals as goal

pub returns : goal.returns
returns c = laws.theorem
