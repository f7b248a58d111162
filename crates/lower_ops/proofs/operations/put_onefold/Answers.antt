use Rattle.lower_ops.proofs.Operated.{one_as, computes_one}
use Rattle.lower_ops.proofs.operations.put_onefold.Goals as goal

pub returns : goal.returns
returns c = λ h. computes_one c.args.op h c.args.reading c.args.target c.args.left c.args.right c.args.temporary (one_as c.first_of.ensures c.in_ok-put.ensures)
