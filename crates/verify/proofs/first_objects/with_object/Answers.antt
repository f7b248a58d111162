use Rattle.verify.proofs.FirstFacts.{object_facts}
use Rattle.verify.proofs.first_objects.with_object.Goals as goal

pub returns : goal.returns
returns c = object_facts _ _ _ _ _ _ _ c.deref.ensures.value c.deref-2.ensures.value c.in_ok-out.ensures
