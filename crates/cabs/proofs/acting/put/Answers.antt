use Rattle.std.proofs.Common.{refl, ◌∷◌}
use Rattle.csem_events.specs.Events.{Put}
use Rattle.typing_spec.specs.Program as typed
use Rattle.csem.specs.History.{Did}
use Rattle.interp_store.specs.layer.Frames as on
use Rattle.cabs.specs.inside.Standing.{Knows}
use Rattle.cabs.proofs.Begun.{begins_kept, given_up_here}
use Rattle.cabs.proofs.Told.{known}
use Rattle.cabs.proofs.Acts.{byte_sent, put_stands}
use Rattle.cabs.proofs.acting.put.Goals as goal

pub returns-in-Ok-clause-meets : goal.returns-in-Ok-clause-meets
returns-in-Ok-clause-meets g c b p whole o at used passed e s =
    let T = g.O.Observer.told c.args.observer.now in
    let U = g.O.Observer.told c.puts.new.self in
    let sent = byte_sent (Knows b T) p whole o c.args.interpreter.now c.send.new.self (on.calls at typed.put_byte used passed) (g.P.Port.seen c.args.port.now) (g.P.Port.seen c.send.new.port) s c.in-Ok.ensures.input c.in-Ok.ensures.output c.in-Ok.ensures.machine c.in-Ok.ensures.tally c.in-Ok.ensures.kept in
    put_stands (Knows b T) (Knows b U) p whole o c.send.new.self at used passed _ c.args.byte (g.P.Port.seen c.send.new.port) e c.in-Ok.ensures.kept refl (known b T U (λ h. Did (Put c.args.byte) ∷ h) c.puts.ensures.told) sent

pub returns-in-Err-clause-meets : goal.returns-in-Err-clause-meets
returns-in-Err-clause-meets g c b p whole o at used passed e s =
    let here = given_up_here (Knows b (g.O.Observer.told c.args.observer.now)) p whole o c.args.interpreter.now (on.calls at typed.put_byte used passed) (g.P.Port.seen c.args.port.now) s in
    begins_kept (whole 0) o (g.P.Port.seen c.args.port.now) (g.P.Port.seen c.send.new.port) c.in-Err.ensures.input c.in-Err.ensures.output here
