use Rattle.lower_ops.proofs.Parts.{two, three}
use Rattle.lower_ops.proofs.Operated.{one_as}
use Rattle.lower_ops.proofs.memory.put_stored.Goals as goal

pub returns-in_ok-put_end : goal.returns-in_ok-put_end
returns-in_ok-put_end c = rw c.if-kept.true (two (one_as c.store_to.ensures c.in_ok-put.ensures) c.in_ok-put_end.ensures)

pub returns-in_ok-put_end-2 : goal.returns-in_ok-put_end-2
returns-in_ok-put_end-2 c = rw c.if-kept.false (three (one_as c.convert_to.ensures c.in_ok-put-2.ensures) (one_as c.store_to-else-kept.ensures c.in_ok-put-3.ensures) c.in_ok-put_end-2.ensures)
