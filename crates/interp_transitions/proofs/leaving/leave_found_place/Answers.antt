use Rattle.std.proofs.Common.{ap}
use Rattle.interp_store.specs.View.{reference_of}
use Rattle.interp_store.specs.layer.Views.{frame_of}
use Rattle.interp_transitions.proofs.Left.{place_as}
use Rattle.interp_transitions.proofs.leaving.leave_found_place.Goals as goal

pub returns-in-Place-clause-takes : goal.returns-in-Place-clause-takes
returns-in-Place-clause-takes c = place_as (frame_of c.args.frame) _ (reference_of c.args.r) c.args.machine.now c.leave_place.new.machine c.leave_place.result
    (ap frame_of c.in-Place.is) c.leave_place.ensures.takes
