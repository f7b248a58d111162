use Rattle.lower_ops.proofs.Stored.{after_to}
use Rattle.lower_ops.proofs.memory.put_altered_after.Goals as goal

pub returns-in_ok-put_altered-in-Nowhere : goal.returns-in_ok-put_altered-in-Nowhere
returns-in_ok-put_altered-in-Nowhere c = rw c.in-Nowhere.is (rw c.in-Nowhere.is at c.in_ok-put_altered-in-Nowhere.ensures)

pub returns-in_ok-put_altered_aside-in-To : goal.returns-in_ok-put_altered_aside-in-To
returns-in_ok-put_altered_aside-in-To c = rw c.in-To.is (after_to c.args.change.op c.args.change.ty c.args.change.of c.args.change.spot c.in-To.field-0 c.args.temporary (rw c.in-To.is at c.in_ok-put_altered_aside-in-To.ensures))

pub returns-in_ok-put_altered_aside-in-If : goal.returns-in_ok-put_altered_aside-in-If
returns-in_ok-put_altered_aside-in-If c = rw c.in-If.is (rw c.in-If.is at c.in_ok-put_altered_aside-in-If.ensures)
