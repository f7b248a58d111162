use Rattle.verify_expressions.proofs.Elements.{written_at}
use Rattle.verify_expressions.proofs.objects.known_written.Goals as goal

pub returns : goal.returns
returns c = written_at _ _ _ _ _ _ _ _ _ _ _ _ c.deref.ensures.value c.in-Some.ensures c.initialised-new.ensures c.either-k.ensures.first c.either-k.ensures.second c.deref-2.ensures.value c.in_ok-facts.ensures c.with_value-objects.ensures
