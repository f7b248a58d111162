use Rattle.verify.proofs.FirstValues.{known_whole}
use Rattle.verify.proofs.first_objects.whole_value.Goals as goal

pub returns : goal.returns
returns c = known_whole _ _ c.args.object.now _ c.deref.ensures.value c.initialised-k.ensures c.requires c.in-Some.ensures
