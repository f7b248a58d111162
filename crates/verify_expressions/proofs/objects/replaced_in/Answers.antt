use Rattle.verify_expressions.proofs.Elements.{replaced_at}
use Rattle.verify_expressions.proofs.objects.replaced_in.Goals as goal

pub returns-in_ok-facts : goal.returns-in_ok-facts
returns-in_ok-facts c = replaced_at _ _ _ _ _ _ c.deref.ensures.value c.with_value-objects.ensures c.in_ok-facts.ensures
