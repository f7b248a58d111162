use Rattle.csem.proofs.Writes.{other_part_stays}
use Rattle.csem.proofs.other_part_stays.Goals as goal

-- src/lib.rt
pub returns : goal.returns
returns c = other_part_stays
