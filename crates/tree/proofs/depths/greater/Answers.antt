use Rattle.tree.proofs.Sums.{capped32_left, capped32_right}
use Rattle.tree.proofs.depths.greater.Goals as goal

pub returns-then-a-b : goal.returns-then-a-b
returns-then-a-b c = λ x y. capped32_right _ _ x y c.if-a-b.true

pub returns-else-a-b : goal.returns-else-a-b
returns-else-a-b c = λ x y. capped32_left _ _ x y c.if-a-b.false
