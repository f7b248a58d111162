use Rattle.verify_intervals.proofs.Decisions.{operates_by}
use Rattle.verify_intervals.proofs.operations.operation.Goals as goal

pub returns : goal.returns
returns c = operates_by _ _ _ _ _ _ _ c.conversion-a.ensures c.right_conversion-b.ensures c.decided-r.ensures
