use Rattle.std.proofs.Common.{◌∙◌, ap}
use Rattle.std.proofs.Math.Facts.{to_z-of_z}
use Rattle.csem.specs.Machine.{stored}
use Rattle.interp_store.specs.View.{reference_of}
use Rattle.interp_store.specs.layer.Agrees.{frames_of, state_in}
use Rattle.interp_steps.proofs.Cleared.{initialised_in}
use Rattle.interp_steps.proofs.elements.enter_element.Goals as goal

pub returns-in-Ok-clause-takes : goal.returns-in-Ok-clause-takes
returns-in-Ok-clause-takes c = λ o. let s = state_in c.args.machine.now.scene o in
    initialised_in (frames_of c.args.machine.now) (stored (reference_of c.args.r) c.args.v s) (state_in c.set.new.self o)
    (c.in-Ok.ensures.ok o ∙ ap (λ v. stored (reference_of c.args.r) v s) (to_z-of_z c.ranges.v))
