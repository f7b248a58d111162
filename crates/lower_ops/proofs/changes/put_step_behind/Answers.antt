use Rattle.lower_ops.proofs.Parts.{two}
use Rattle.lower_ops.proofs.Operated.{one_as}
use Rattle.lower_ops.proofs.changes.put_step_behind.Goals as goal

pub returns : goal.returns
returns c = two (one_as c.move_to.ensures c.in_ok-put.ensures) c.in_ok-put_step.ensures
