use Rattle.verify_statements.proofs.RowRules.{element_begins}
use Rattle.verify_statements.proofs.rows.element_begun.Goals as goal

pub returns : goal.returns
returns c = element_begins _ _ _ _ _ _ _ _ _ _ _ _ c.single_index-at.ensures c.in_ok-v.ensures c.conversion-k.ensures c.in_ok-state2.ensures
