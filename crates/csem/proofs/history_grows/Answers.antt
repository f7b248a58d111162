use Rattle.csem.proofs.Histories.{history_grows}
use Rattle.csem.proofs.history_grows.Goals as goal

-- src/lib.rt
pub returns : goal.returns
returns c = history_grows
