use Rattle.verify_expressions.proofs.Steps.{never_evaluates}
use Rattle.verify_expressions.proofs.expressions.never_evaluated.Goals as goal

pub returns : goal.returns
returns c = never_evaluates _ _ _ _ _ c.requires
