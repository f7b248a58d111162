use Rattle.verify_logic.proofs.Compares.{both_restrict}
use Rattle.verify_expressions.proofs.comparisons.both_restricted.Goals as goal

pub returns : goal.returns
returns c = both_restrict _ _ _ _ _ _ _ c.in-Some.ensures c.in-Some-restricted.ensures
