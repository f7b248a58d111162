use Rattle.verify_expressions.proofs.Elements.{read_at}
use Rattle.verify_expressions.proofs.objects.element_in.Goals as goal

pub returns : goal.returns
returns c = read_at _ _ _ _ _ _ c.deref.ensures.value c.initialised-k.ensures c.in-Some.ensures
