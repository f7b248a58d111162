use Rattle.verify_logic.proofs.Splits.{splits_rule}
use Rattle.verify_expressions.proofs.conditions.split.Goals as goal

pub returns : goal.returns
returns c = splits_rule _ _ _ _ c.in_ok-on.ensures c.off_part-off.ensures
