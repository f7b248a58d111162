use Rattle.std.proofs.Common.{length}
use Rattle.phases.specs.inside.Lexical.{number_more}
use Rattle.phases.specs.inside.Reading.{bytes_at}
use Rattle.phases.specs.inside.Along.{Along}
use Rattle.phases.proofs.cursor.Cursor.number_tail.Given as goal

abbrev pub invariant-loop-step : goal.invariant-loop-step
invariant-loop-step l =
    Along l.initial.self (number_more l.initial.first (bytes_at l.initial.self)) l.count l.at (number_more l.last (bytes_at l.at))

abbrev pub decreases-loop-step : goal.decreases-loop-step
decreases-loop-step l = length l.at.rest.now
