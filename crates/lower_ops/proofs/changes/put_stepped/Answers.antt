use Rattle.lower_ops.proofs.Parts.{two}
use Rattle.lower_ops.proofs.changes.put_stepped.Goals as goal

pub returns-in_ok-put_end-in-Before : goal.returns-in_ok-put_end-in-Before
returns-in_ok-put_end-in-Before c = rw c.in-Before.is (two c.in_ok-put_step-in-Before.ensures c.in_ok-put_end-in-Before.ensures)
