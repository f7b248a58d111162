use Rattle.std.proofs.Common.{arith}
use Rattle.std.proofs.lemmas.Int.{ints}
use Rattle.verify_logic.proofs.Rules.{bounds_subscript, listed_subscript}
use Rattle.verify_expressions.proofs.operators.subscript_at.Goals as goal

pub returns-then-i-top : goal.returns-then-i-top
returns-then-i-top c = bounds_subscript _ _ _ _ (omega (arith, ints, c.if-i-ge0.true)) (omega (arith, ints, c.if-i-top.true, c.from-top.ensures))

pub returns-then-admitted : goal.returns-then-admitted
returns-then-admitted c = listed_subscript _ _ _ _ (c.is_listed-admitted.ensures c.if-admitted.true)
