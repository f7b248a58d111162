use Rattle.lower_ops.proofs.Parts.{two}
use Rattle.lower_exprs.proofs.places.put_read_object.Goals as goal

pub returns : goal.returns
returns c = two c.in_ok-put.ensures c.in_ok-put_end.ensures
