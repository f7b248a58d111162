use Rattle.verify_logic.proofs.Calls.{value_used}
use Rattle.verify_expressions.proofs.Summaries.{hull_unused, hull_listed}
use Rattle.verify_expressions.proofs.calls.value_at.Goals as goal

pub returns-then-always : goal.returns-then-always
returns-then-always c = value_used _ _ _ _ c.if-always.true

pub returns-then-not-used : goal.returns-then-not-used
returns-then-not-used c = hull_unused _ _ _ _ _ _ c.if-not-used.true c.single-zero.ensures c.hull-either.ensures.first c.hull-either.ensures.second

pub returns-then-admitted : goal.returns-then-admitted
returns-then-admitted c = hull_listed _ _ _ _ _ _ (c.is_listed-admitted.ensures c.if-admitted.true) c.single-zero.ensures c.hull-either.ensures.first c.hull-either.ensures.second
