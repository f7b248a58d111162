use Rattle.lower_ops.proofs.Parts.{two}
use Rattle.lower_ops.proofs.Operated.{one_as}
use Rattle.lower_ops.proofs.memory.put_part_named.Goals as goal

pub returns : goal.returns
returns c = two (one_as c.address_of.ensures c.in_ok-put.ensures) (one_as c.part_of.ensures c.in_ok-put-2.ensures)
