use Rattle.verify.proofs.Steps.{begins_there}
use Rattle.verify.proofs.first_objects.objects_at_start.Goals as goal

pub returns : goal.returns
returns c = begins_there c.in_ok-all.all c.args.program.now _ c.deref.ensures.value c.in_ok-all.ensures
