use Rattle.interp_store.specs.layer.Agrees.{frames_of, state_in}
use Rattle.interp_steps.proofs.Steps.{leaves_as}
use Rattle.interp_steps.proofs.statements.declare.Goals as goal

pub returns-in-Ok-clause-takes : goal.returns-in-Ok-clause-takes
returns-in-Ok-clause-takes c = λ o. leaves_as (frames_of c.args.machine.now) _ c.left.result _ (state_in c.renew.new.self o) c.left.ensures (c.in-Ok.ensures.ok o)
