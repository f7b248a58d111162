use Rattle.lower_ops.proofs.Parts.{three}
use Rattle.lower_ops.proofs.Operated.{one_as}
use Rattle.lower_ops.proofs.changes.put_step_aside.Goals as goal

pub returns : goal.returns
returns c = three (one_as c.move_to.ensures c.in_ok-put.ensures) c.in_ok-put_step.ensures c.in_ok-put_end.ensures
