use Rattle.tree.proofs.Sums.{capped_sum, capped_one}
use Rattle.tree.proofs.node_counts.one_more.Goals as goal

pub returns : goal.returns
returns c = λ x e. capped_sum _ _ _ x 1 c.saturating_add.ensures e capped_one
