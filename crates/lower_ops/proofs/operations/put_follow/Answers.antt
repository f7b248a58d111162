use Rattle.std.proofs.Common.{refl}
use Rattle.lower_correct.specs.Values.{Nowhere}
use Rattle.lower_correct.specs.Code as relation
use Rattle.lower_ops.proofs.Parts.{none_wrote}
use Rattle.lower_ops.proofs.Operated.{one_as, no_follows}
use Rattle.lower_ops.proofs.operations.put_follow.Goals as goal

pub returns-in-Nowhere : goal.returns-in-Nowhere
returns-in-Nowhere c = rw c.in-Nowhere.is (none_wrote (λ w p q. relation.Follows w Nowhere c.args.temporary p q) c.args.code.now.list.items c.args.code.now.list.items refl c.args.code.now.short (λ w. refl))

pub returns-in-To : goal.returns-in-To
returns-in-To c = rw c.in-To.is (no_follows c.in-To.field-0 c.args.temporary c.args.code.now.list.items c.args.code.now.short)

pub returns-in_ok-put-in-If : goal.returns-in_ok-put-in-If
returns-in_ok-put-in-If c = rw c.in-If.is (one_as c.test.ensures c.in_ok-put-in-If.ensures)
