use Rattle.verify_statements.proofs.Steps.{object_there}
use Rattle.verify_statements.proofs.begun.has_object.Goals as goal

pub returns-then-n-objects : goal.returns-then-n-objects
returns-then-n-objects c = λ e. object_there _ _ c.if-n-objects.true
