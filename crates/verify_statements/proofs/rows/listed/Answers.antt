use Rattle.verify_statements.proofs.RowRules.{list_row}
use Rattle.verify_statements.proofs.rows.listed.Goals as goal

pub returns : goal.returns
returns c = list_row _ _ _ _ _ _ _ c.in_ok-state2.ensures
