use Rattle.csem.proofs.InPlace.{zeros_are_set}
use Rattle.csem.proofs.zeros_are_set.Goals as goal

pub returns : goal.returns
returns c = zeros_are_set
