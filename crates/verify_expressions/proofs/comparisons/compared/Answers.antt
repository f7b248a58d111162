use Rattle.verify_expressions.proofs.Steps.{compared_some}
use Rattle.verify_expressions.proofs.comparisons.compared.Goals as goal

pub returns : goal.returns
returns c = compared_some _ _ _ _ _ _ _ _ _ _ _ _ c.both_learnt.result c.all_of-all.ensures c.in-Some.ensures c.in-Some-look.ensures (c.lies_in-left_fits.ensures c.if-not-left_fits.false) (c.lies_in-right_fits.ensures c.if-not-right_fits.false) c.both_learnt.ensures
