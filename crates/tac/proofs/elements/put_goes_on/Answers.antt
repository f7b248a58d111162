use Rattle.lower_ops.proofs.Parts.{two}
use Rattle.lower_ops.proofs.Operated.{one_as}
use Rattle.tac.proofs.elements.put_goes_on.Goals as goal

pub returns : goal.returns
returns c = two (one_as c.compute.ensures c.in_ok-put.ensures) (one_as c.branch-counted.ensures c.in_ok-put-2.ensures)
