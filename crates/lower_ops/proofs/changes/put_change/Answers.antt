use Rattle.lower_ops.proofs.Parts.{two}
use Rattle.lower_ops.proofs.Operated.{one_as}
use Rattle.lower_ops.proofs.changes.put_change.Goals as goal

pub returns-in_ok-put_operation : goal.returns-in_ok-put_operation
returns-in_ok-put_operation c = rw c.if-change.true (rw c.reading_of-reading.ensures at c.in_ok-put_operation.ensures)

pub returns-in_ok-put : goal.returns-in_ok-put
returns-in_ok-put c = rw c.if-change.false (two (rw c.reading_of-reading.ensures at c.in_ok-put_operation-2.ensures) (one_as c.convert_to.ensures c.in_ok-put.ensures))
