use Rattle.csem.proofs.Histories.{ended_stays}
use Rattle.csem.proofs.ended_stays.Goals as goal

-- src/lib.rt
pub returns : goal.returns
returns c = ended_stays
