use Rattle.verify_expressions.proofs.Elements.{entails_at}
use Rattle.verify_expressions.proofs.objects.known_entails.Goals as goal

pub returns : goal.returns
returns c = λ t. entails_at _ _ _ _ _ _ c.deref.ensures.value c.deref-2.ensures.value c.deref-3.ensures.value c.deref-4.ensures.value (c.objects_entail-objects.ensures c.if-not-objects.false) (c.facts_imply.ensures t)
