use Rattle.verify_expressions.proofs.Steps.{never_tests}
use Rattle.verify_expressions.proofs.expressions.never_tested.Goals as goal

pub returns : goal.returns
returns c = never_tests _ _ _ _ _ c.requires
