use Rattle.verify_expressions.proofs.Elements.{contents_at}
use Rattle.verify_expressions.proofs.objects.content_in.Goals as goal

pub returns : goal.returns
returns c = contents_at _ _ _ _ c.deref.ensures.value c.in-Some.ensures
