use Rattle.lower_ops.proofs.Parts.{two}
use Rattle.tac.proofs.leaves.put_evaluated.Goals as goal

pub returns : goal.returns
returns c = λ out again back. two c.in_ok-put.ensures (rw (c.all_free.ensures.temporary, c.all_free.ensures.slot) at c.in_ok-put_value.ensures)
