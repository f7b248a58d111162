use Rattle.parser.proofs.UnitCounts.{counts_more, counts_passes}
use Rattle.parser.proofs.unit.counted.Goals as goal

pub returns-then-more-nodes-clause-err : goal.returns-then-more-nodes-clause-err
returns-then-more-nodes-clause-err c = counts_passes _ _ _ _ c.nodes-more.ensures c.requires c.if-more-nodes.true

pub returns-clause-ok : goal.returns-clause-ok
returns-clause-ok c = counts_more _ _ _ (c.is_small.ensures.0 c.if-not-is_small.false) c.nodes-more.ensures c.requires c.if-more-nodes.false
