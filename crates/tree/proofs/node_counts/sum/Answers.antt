use Rattle.tree.proofs.Sums.{capped_sum}
use Rattle.tree.proofs.node_counts.sum.Goals as goal

pub returns : goal.returns
returns c = λ x y. capped_sum _ _ _ x y c.saturating_add.ensures
