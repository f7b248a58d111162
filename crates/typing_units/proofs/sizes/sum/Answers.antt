use Rattle.typing_units.proofs.Sums.{capped32_sum}
use Rattle.typing_units.proofs.sizes.sum.Goals as goal

pub returns : goal.returns
returns c = λ x y e f. capped32_sum _ _ _ x y c.saturating_add.ensures e f
