use Rattle.tac_code.proofs.Growing.{calls_are_active}
use Rattle.tac_code.proofs.laws.calls_are_active.Goals as goal

-- src/laws.rt
pub returns : goal.returns
returns c = calls_are_active
