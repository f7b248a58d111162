use Rattle.verify_expressions.proofs.Steps.{one_row}
use Rattle.verify_expressions.proofs.places.is_followed.Goals as goal

pub returns-then-lengths-eq1 : goal.returns-then-lengths-eq1
returns-then-lengths-eq1 c = λ t. one_row _ c.if-lengths-eq1.true
