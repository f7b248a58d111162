use Rattle.std.proofs.Common.{rules, arith, ◌≡◌, ◌∷◌, to_z, of_z, w64, ◌∙◌}
use Rattle.std.proofs.lemmas.Int.{to_z-of_z}
use Rattle.csem_events.specs.Events.{Got, GotEnd}
use Rattle.typing_spec.specs.Program as typed
use Rattle.csem.specs.History.{Did}
use Rattle.interp_store.specs.layer.Frames as on
use Rattle.cabs.specs.inside.Standing.{Knows}
use Rattle.cabs.proofs.Begun.{begins_kept, given_up_here}
use Rattle.cabs.proofs.Told.{known}
use Rattle.cabs.proofs.Acts.{byte_sent, got_stands, end_stands}
use Rattle.cabs.proofs.acting.get.Goals as goal

pub returns-in-Ok-Some-clause-meets : goal.returns-in-Ok-Some-clause-meets
returns-in-Ok-Some-clause-meets g c b p whole o at used passed s =
    let e : to_z w64 (of_z w64 c.from.result) ≡ c.from.result = first_of (search (rules, to_z-of_z), grind (arith, to_z-of_z)) in
    let T = g.O.Observer.told c.args.observer.now in
    let U = g.O.Observer.told c.gets.new.self in
    let sent = byte_sent (Knows b T) p whole o c.args.interpreter.now c.send.new.self (on.calls at typed.get_byte used passed) (g.P.Port.seen c.args.port.now) (g.P.Port.seen c.send.new.port) s c.in-Ok.ensures.input c.in-Ok.ensures.output c.in-Ok.ensures.machine c.in-Ok.ensures.tally c.in-Ok.ensures.kept in
    got_stands (Knows b T) (Knows b U) p whole o c.send.new.self at used passed c.in-Ok-Some.byte _ _ _ c.in-Ok.ensures.kept (e ∙ c.from.ensures) (search rules) (known b T U (λ h. Did (Got c.in-Ok-Some.byte) ∷ h) c.gets.ensures.told) sent

pub returns-in-Ok-None-clause-meets : goal.returns-in-Ok-None-clause-meets
returns-in-Ok-None-clause-meets g c b p whole o at used passed s =
    let T = g.O.Observer.told c.args.observer.now in
    let U = g.O.Observer.told c.gets-in-Ok-None.new.self in
    let sent = byte_sent (Knows b T) p whole o c.args.interpreter.now c.send.new.self (on.calls at typed.get_byte used passed) (g.P.Port.seen c.args.port.now) (g.P.Port.seen c.send.new.port) s c.in-Ok.ensures.input c.in-Ok.ensures.output c.in-Ok.ensures.machine c.in-Ok.ensures.tally c.in-Ok.ensures.kept in
    end_stands (Knows b T) (Knows b U) p whole o c.send.new.self at used passed _ _ c.in-Ok.ensures.kept (search rules) (known b T U (λ h. Did GotEnd ∷ h) c.gets-in-Ok-None.ensures.told) sent

pub returns-in-Err-clause-meets : goal.returns-in-Err-clause-meets
returns-in-Err-clause-meets g c b p whole o at used passed s =
    let here = given_up_here (Knows b (g.O.Observer.told c.args.observer.now)) p whole o c.args.interpreter.now (on.calls at typed.get_byte used passed) (g.P.Port.seen c.args.port.now) s in
    begins_kept (whole 0) o (g.P.Port.seen c.args.port.now) (g.P.Port.seen c.send.new.port) c.in-Err.ensures.input c.in-Err.ensures.output here

pub returns-in-Err-get-clause-meets : goal.returns-in-Err-get-clause-meets
returns-in-Err-get-clause-meets g c b p whole o at used passed s =
    let T = g.O.Observer.told c.args.observer.now in
    let sent = byte_sent (Knows b T) p whole o c.args.interpreter.now c.send.new.self (on.calls at typed.get_byte used passed) (g.P.Port.seen c.args.port.now) (g.P.Port.seen c.send.new.port) s c.in-Ok.ensures.input c.in-Ok.ensures.output c.in-Ok.ensures.machine c.in-Ok.ensures.tally c.in-Ok.ensures.kept in
    let here = given_up_here (Knows b T) p whole o c.send.new.self (on.calls at typed.get_byte used passed) (g.P.Port.seen c.send.new.port) sent in
    begins_kept (whole 0) o (g.P.Port.seen c.send.new.port) (g.P.Port.seen c.get.new.self) c.in-Err-get.ensures.gets.input_stays c.in-Err-get.ensures.gets.output_stays here
