use Rattle.csem.proofs.InPlace.{nothing_is_put}
use Rattle.csem.proofs.nothing_is_put.Goals as goal

pub returns : goal.returns
returns c = nothing_is_put
