use Rattle.lower_ops.proofs.changes.put_step_to.Goals as goal

pub returns-in_ok-put_step_behind-in-Temporary : goal.returns-in_ok-put_step_behind-in-Temporary
returns-in_ok-put_step_behind-in-Temporary c = rw c.in-Temporary.is c.in_ok-put_step_behind-in-Temporary.ensures

pub returns-in_ok-put_step_behind-in-Kept : goal.returns-in_ok-put_step_behind-in-Kept
returns-in_ok-put_step_behind-in-Kept c = rw c.in-Kept.is (rw c.in-Kept.is at c.in_ok-put_step_behind-in-Kept.ensures)

pub returns-in_ok-put_step_aside-in-Object : goal.returns-in_ok-put_step_aside-in-Object
returns-in_ok-put_step_aside-in-Object c = rw c.in-Object.is (rw c.in-Object.is at c.in_ok-put_step_aside-in-Object.ensures)
