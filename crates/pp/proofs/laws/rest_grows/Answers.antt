use Rattle.pp.proofs.StreamLaws.{rest_grows}
use Rattle.pp.proofs.laws.rest_grows.Goals as goal

pub returns : goal.returns
returns c = rest_grows
