use Rattle.lower_ops.proofs.Operated.{one_as, computes_two}
use Rattle.lower_ops.proofs.operations.put_twofold.Goals as goal

pub returns : goal.returns
returns c = λ h. computes_two c.args.op h c.args.reading c.args.target c.args.left c.args.right c.args.temporary (one_as c.first_of.ensures c.in_ok-put.ensures) (one_as c.compute.ensures c.in_ok-put-2.ensures)
