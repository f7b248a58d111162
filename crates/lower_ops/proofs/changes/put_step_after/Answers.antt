use Rattle.lower_ops.proofs.changes.put_step_after.Goals as goal

pub returns-in_ok-put_step_aside-in-If : goal.returns-in_ok-put_step_aside-in-If
returns-in_ok-put_step_aside-in-If c = rw c.in-If.is (rw c.in-If.is at c.in_ok-put_step_aside-in-If.ensures)
