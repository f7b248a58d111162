use Rattle.pp.proofs.StreamLaws.{stream_grows}
use Rattle.pp.proofs.laws.stream_grows.Goals as goal

pub returns : goal.returns
returns c = stream_grows
