use Rattle.phases.proofs.KindLemmas.{kinds_exclude}
use Rattle.phases.proofs.laws.kinds_exclude.Goals as goal

pub returns : goal.returns
returns c = kinds_exclude
