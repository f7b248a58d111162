use Rattle.lower_ops.proofs.Parts.{two}
use Rattle.lower_ops.proofs.operations.put_then.Goals as goal

pub returns : goal.returns
returns c = two (rw c.target_of.ensures at c.in_ok-put_operation.ensures) c.in_ok-put_follow.ensures
