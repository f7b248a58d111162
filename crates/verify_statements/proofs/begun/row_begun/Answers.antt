use Rattle.std.proofs.Common.{refl}
use Rattle.verify_statements.proofs.RowRules.{defined_row}
use Rattle.verify_statements.proofs.begun.row_begun.Goals as goal

pub returns : goal.returns
returns c = defined_row _ _ _ _ _ _ _ _ _ _ _ _ _ _ c.only.ensures c.base.ensures c.in-Some.ensures c.requires.there c.requires.row refl c.in_ok-state2.ensures c.in_ok-state3.ensures c.completed-state4.ensures
