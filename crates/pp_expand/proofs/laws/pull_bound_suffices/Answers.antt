use Rattle.pp_expand.proofs.Pulls.{by_enough}
use Rattle.pp_expand.proofs.laws.pull_bound_suffices.Goals as goal

pub returns : goal.returns
returns c = λ bound known xs ending left h. by_enough bound left known ending xs h
