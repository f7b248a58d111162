use Rattle.verify_expressions.proofs.Steps.{named_finds}
use Rattle.verify_expressions.proofs.expressions.named.Goals as goal

pub returns : goal.returns
returns c = named_finds _ _ _ _ _ _ c.in-Some.ensures
