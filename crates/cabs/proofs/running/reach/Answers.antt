use Rattle.std.proofs.Common.{◌≡◌}
use Rattle.interp_store.specs.layer.Frames as on
use Rattle.interp_store.specs.layer.Views.{node_of}
use Rattle.cabs.proofs.Begun.{given_up_here, begins_kept}
use Rattle.cabs.proofs.Acts.{byte_sent}
use Rattle.cabs.proofs.running.reach.Goals as goal

pub returns-in-Ok-clause-meets : goal.returns-in-Ok-clause-meets
returns-in-Ok-clause-meets g c h p whole o s =
    (byte_sent (λ g. g ≡ h) p whole o c.args.interpreter.now c.send.new.self _ _ _ s c.in-Ok.ensures.input c.in-Ok.ensures.output c.in-Ok.ensures.machine c.in-Ok.ensures.tally c.in-Ok.ensures.kept, c.in-Ok.ensures.kept)

pub returns-clause-meets : goal.returns-clause-meets
returns-clause-meets g c h p whole o s =
    let here = given_up_here (λ g. g ≡ h) p whole o c.args.interpreter.now (on.enters (node_of c.args.node)) (g.P.Port.seen c.args.port.now) s in
    begins_kept (whole 0) o (g.P.Port.seen c.args.port.now) (g.P.Port.seen c.send.new.port) c.in-Err.ensures.input c.in-Err.ensures.output here
