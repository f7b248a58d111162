use Rattle.std.proofs.Common.{subst}
use Rattle.interp_store.specs.layer.Frames as on
use Rattle.interp_store.specs.layer.Steps.{left}
use Rattle.interp_store.specs.layer.Views.{found_of}
use Rattle.interp_transitions.specs.Acts.{Acts}
use Rattle.cabs.proofs.leaving.leave_any.Goals as goal

pub returns-clause-acts : goal.returns-clause-acts
returns-clause-acts c =
    let P : on.Frame → Type 0 = λ f. Acts (λ p s. left p f (found_of c.args.found) s) c.args.machine.now c.leave.result c.leave.new.machine in
    subst P c.taken.ensures c.leave.ensures.acts
