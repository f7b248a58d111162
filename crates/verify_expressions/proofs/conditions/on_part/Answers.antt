use Rattle.verify_logic.proofs.Splits.{none_if_zero}
use Rattle.verify_expressions.proofs.Steps.{copied_nonzero}
use Rattle.verify_expressions.proofs.conditions.on_part.Goals as goal

pub returns-then-is_zero : goal.returns-then-is_zero
returns-then-is_zero c = let h = c.is_zero.ensures c.if-is_zero.true in none_if_zero _ _ h.0 h.1

pub returns : goal.returns
returns c = copied_nonzero _ _ c.copied.result c.copied.ensures
