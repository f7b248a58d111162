use Rattle.verify_logic.proofs.Begun.{declare_rule}
use Rattle.verify_statements.proofs.Steps.{left_as}
use Rattle.verify_statements.proofs.begun.declared.Goals as goal

pub returns : goal.returns
returns c = left_as _ _ _ _ _ c.only.ensures (declare_rule _ _ _ _ _ c.in_ok-state2.ensures)
