use Rattle.pp_expand.proofs.Pulls.{expanding_pulled}
use Rattle.pp_expand.proofs.laws.pulls_first.Goals as goal

pub returns : goal.returns
returns c = expanding_pulled
