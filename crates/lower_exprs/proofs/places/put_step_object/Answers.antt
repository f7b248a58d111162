use Rattle.lower_ops.proofs.Parts.{three}
use Rattle.lower_exprs.proofs.places.put_step_object.Goals as goal

pub returns : goal.returns
returns c = three c.in_ok-put.ensures c.in_ok-put-2.ensures c.in_ok-put_stepped.ensures
