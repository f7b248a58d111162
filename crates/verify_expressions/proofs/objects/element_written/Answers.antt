use Rattle.verify_expressions.proofs.Steps.{entails_new, one_writes_by}
use Rattle.verify_expressions.proofs.objects.element_written.Goals as goal

pub returns : goal.returns
returns c = one_writes_by _ _ _ _ _ _ _ _ c.requires c.in-Some.ensures (entails_new _ _ c.initialised-new.ensures) c.in_ok-state2.ensures
