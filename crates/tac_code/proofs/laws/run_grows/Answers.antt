use Rattle.tac_code.proofs.Growing.{run_grows}
use Rattle.tac_code.proofs.laws.run_grows.Goals as goal

-- src/laws.rt
pub returns : goal.returns
returns c = run_grows
