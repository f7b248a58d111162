use Rattle.verify_stack.proofs.Whole.{ok_by_weights}
use Rattle.verify_stack.proofs.bounds.bound_by_weights.Goals as goal

pub returns : goal.returns
returns c = ok_by_weights _ _ _ c.requires c.stack_bound_by.ensures
