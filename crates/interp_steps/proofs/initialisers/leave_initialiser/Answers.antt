use Rattle.interp_steps.proofs.Given.{initialised_as}
use Rattle.interp_steps.proofs.initialisers.leave_initialiser.Goals as goal

pub returns-in-NextPart-clause-takes : goal.returns-in-NextPart-clause-takes
returns-in-NextPart-clause-takes c = initialised_as c.args.frame _ c.args.machine.now c.next_part.new.machine c.next_part.result c.in-NextPart.is c.next_part.ensures.takes
