use Rattle.pp_expand.proofs.Law.{larger_budget}
use Rattle.pp_expand.proofs.laws.budget_suffices.Goals as goal

pub returns : goal.returns
returns c = larger_budget
