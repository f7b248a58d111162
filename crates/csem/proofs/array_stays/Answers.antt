use Rattle.csem.proofs.InPlace.{array_stays}
use Rattle.csem.proofs.array_stays.Goals as goal

pub returns : goal.returns
returns c = array_stays
