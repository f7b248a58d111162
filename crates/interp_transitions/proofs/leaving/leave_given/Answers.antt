use Rattle.std.proofs.Common.{ap}
use Rattle.interp_store.specs.layer.Views.{frame_of}
use Rattle.interp_transitions.proofs.Left.{first_as}
use Rattle.interp_transitions.proofs.leaving.leave_given.Goals as goal

pub returns-in-Initialiser-clause-takes : goal.returns-in-Initialiser-clause-takes
returns-in-Initialiser-clause-takes c = first_as (frame_of c.args.frame) _ c.args.machine.now c.leave_initialiser.new.machine c.leave_initialiser.result
    (ap frame_of c.in-Initialiser.is) c.leave_initialiser.ensures.takes
