use Rattle.pp_expand.proofs.Streams.{knows_more}
use Rattle.pp_expand.proofs.laws.knows_grows.Goals as goal

pub returns : goal.returns
returns c = λ names after s keeps knows. knows_more names after keeps s knows
