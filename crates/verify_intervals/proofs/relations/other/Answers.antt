use Rattle.verify_logic.proofs.Compares.{other_narrows}
use Rattle.verify_intervals.proofs.relations.other.Goals as goal

pub returns : goal.returns
returns c = other_narrows _ _ _ _ c.without-left.ensures c.without-right.ensures
