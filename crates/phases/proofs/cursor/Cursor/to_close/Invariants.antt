use Rattle.std.proofs.Common.{length, false}
use Rattle.phases.specs.inside.Lexical.{to_close}
use Rattle.phases.specs.inside.Reading.{bytes_at}
use Rattle.phases.specs.inside.Along.{AlongClose}
use Rattle.phases.proofs.cursor.Cursor.to_close.Given as goal

abbrev pub invariant-loop-step : goal.invariant-loop-step
invariant-loop-step l =
    AlongClose l.initial.self (to_close l.initial.close l.initial.escapes false (bytes_at l.initial.self)) l.count l.at
    (to_close l.close l.escapes l.escaped (bytes_at l.at))

abbrev pub decreases-loop-step : goal.decreases-loop-step
decreases-loop-step l = length l.at.rest.now
