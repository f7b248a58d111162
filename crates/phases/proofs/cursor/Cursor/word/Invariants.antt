use Rattle.std.proofs.Common.{length}
use Rattle.phases.specs.inside.Lexical.{word_len}
use Rattle.phases.specs.inside.Reading.{bytes_at}
use Rattle.phases.specs.inside.Along.{Along}
use Rattle.phases.proofs.cursor.Cursor.word.Given as goal

abbrev pub invariant-loop-step : goal.invariant-loop-step
invariant-loop-step l = Along l.initial.self (word_len (bytes_at l.initial.self)) l.count l.at (word_len (bytes_at l.at))

abbrev pub decreases-loop-step : goal.decreases-loop-step
decreases-loop-step l = length l.at.rest.now
