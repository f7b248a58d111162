use Rattle.tree.proofs.Sums.{capped32_sum, capped32_one}
use Rattle.tree.proofs.depths.deeper.Goals as goal

pub returns : goal.returns
returns c = λ x e. capped32_sum _ _ _ x 1 c.saturating_add.ensures e capped32_one
