use Rattle.verify_expressions.proofs.Elements.{same_known}
use Rattle.verify_expressions.proofs.objects.copied_known.Goals as goal

pub returns : goal.returns
returns c = same_known _ _ _ _ _ c.in_ok-objects.ensures c.deref.ensures.value c.in_ok-facts.ensures c.deref-2.ensures.value
