use Rattle.verify.proofs.Steps.{known_static}
use Rattle.verify.proofs.first_objects.padded_value.Goals as goal

pub returns : goal.returns
returns c = known_static _ _ c.args.object.now _ c.deref.ensures.value c.initialised-k.ensures c.in-Some.ensures.each c.in-Some.ensures.zero
