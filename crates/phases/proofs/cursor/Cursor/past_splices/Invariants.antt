use Rattle.std.proofs.Common.{length}
use Rattle.phases.specs.inside.Reading.{Skips}
use Rattle.phases.proofs.cursor.Cursor.past_splices.Given as goal

abbrev pub invariant-loop-step : goal.invariant-loop-step
invariant-loop-step l = Skips l.initial.self l.at

abbrev pub decreases-loop-step : goal.decreases-loop-step
decreases-loop-step l = length l.at.rest.now
