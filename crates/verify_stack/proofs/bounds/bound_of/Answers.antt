use Rattle.verify_stack.proofs.Whole.{usages_bound}
use Rattle.verify_stack.proofs.bounds.bound_of.Goals as goal

pub returns-in-Some : goal.returns-in-Some
returns-in-Some c = usages_bound _ _ _ c.requires _ c.in-Some.ensures
