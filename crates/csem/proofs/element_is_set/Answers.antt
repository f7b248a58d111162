use Rattle.csem.proofs.InPlace.{element_is_set}
use Rattle.csem.proofs.element_is_set.Goals as goal

pub returns : goal.returns
returns c = element_is_set
