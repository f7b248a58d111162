use Rattle.interp_steps.proofs.Steps.{no_type, a_type}
use Rattle.interp_steps.proofs.objects.type_of.Goals as goal

pub returns-in-None : goal.returns-in-None
returns-in-None c = no_type c.args.objects.now c.args.n c.in-None.ensures.lookup.3

pub returns-in-Some : goal.returns-in-Some
returns-in-Some c = a_type c.args.objects.now c.args.n c.in-Some.ty.now c.in-Some.ensures.lookup.3.0 c.in-Some.ensures.lookup.1
