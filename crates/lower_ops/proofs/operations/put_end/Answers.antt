use Rattle.std.proofs.Common.{refl}
use Rattle.lower_correct.specs.Values.{Nowhere}
use Rattle.lower_correct.specs.Code as relation
use Rattle.lower_ops.proofs.Parts.{none_wrote}
use Rattle.lower_ops.proofs.Operated.{one_as, to_ends}
use Rattle.lower_ops.proofs.operations.put_end.Goals as goal

pub returns-in-Nowhere : goal.returns-in-Nowhere
returns-in-Nowhere c = rw c.in-Nowhere.is (none_wrote (λ w p q. relation.Ends w Nowhere c.args.operand p q) c.args.code.now.list.items c.args.code.now.list.items refl c.args.code.now.short (λ w. refl))

pub returns-in_ok-put-in-To : goal.returns-in_ok-put-in-To
returns-in_ok-put-in-To c = rw c.in-To.is (to_ends c.in-To.target c.args.operand (one_as c.move_to.ensures c.in_ok-put-in-To.ensures))

pub returns-in_ok-put-in-If : goal.returns-in_ok-put-in-If
returns-in_ok-put-in-If c = rw c.in-If.is (one_as c.test.ensures c.in_ok-put-in-If.ensures)
