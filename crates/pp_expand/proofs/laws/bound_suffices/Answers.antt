use Rattle.pp_expand.proofs.Law.{by_enough}
use Rattle.pp_expand.proofs.laws.bound_suffices.Goals as goal

pub returns : goal.returns
returns c = λ bound known xs ending left h. by_enough bound left known xs ending h
