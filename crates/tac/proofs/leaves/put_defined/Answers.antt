use Rattle.lower_ops.proofs.Parts.{two}
use Rattle.tac.proofs.leaves.put_defined.Goals as goal

pub returns : goal.returns
returns c = λ out again back. two c.in_ok-put.ensures c.in_ok-put_first.ensures
