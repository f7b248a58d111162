use Rattle.verify_expressions.proofs.Steps.{operates_listed}
use Rattle.verify_expressions.proofs.operators.operation_at.Goals as goal

pub returns-then-admitted : goal.returns-then-admitted
returns-then-admitted c = operates_listed _ _ _ _ _ _ _ _ (c.is_listed-admitted.ensures c.if-admitted.true) c.result_type.ensures c.all_of.ensures
