use Rattle.csem.proofs.Writes.{other_object_stays}
use Rattle.csem.proofs.other_object_stays.Goals as goal

-- src/lib.rt
pub returns : goal.returns
returns c = other_object_stays
