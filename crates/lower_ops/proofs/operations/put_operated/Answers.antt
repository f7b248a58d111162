use Rattle.lower_ops.proofs.Operated.{to_operates}
use Rattle.lower_ops.proofs.operations.put_operated.Goals as goal

pub returns-in_ok-put_then-in-Nowhere : goal.returns-in_ok-put_then-in-Nowhere
returns-in_ok-put_then-in-Nowhere c = rw c.in-Nowhere.is (rw c.in-Nowhere.is at c.in_ok-put_then-in-Nowhere.ensures)

pub returns-in_ok-put_then-in-To : goal.returns-in_ok-put_then-in-To
returns-in_ok-put_then-in-To c = rw c.in-To.is (to_operates c.in-To.field-0 c.args.op c.args.reading c.args.left c.args.right c.args.temporary (rw c.in-To.is at c.in_ok-put_then-in-To.ensures))

pub returns-in_ok-put_comparison-in-If : goal.returns-in_ok-put_comparison-in-If
returns-in_ok-put_comparison-in-If c = rw c.in-If.is c.in_ok-put_comparison-in-If.ensures
