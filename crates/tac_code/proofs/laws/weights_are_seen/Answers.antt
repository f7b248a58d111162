use Rattle.tac_code.proofs.Weights.{weights_are_seen}
use Rattle.tac_code.proofs.laws.weights_are_seen.Goals as goal

-- src/laws.rt
pub returns : goal.returns
returns c = weights_are_seen
