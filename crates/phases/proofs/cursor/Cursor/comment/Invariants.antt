use Rattle.std.proofs.Common.{length, false}
use Rattle.phases.specs.inside.Pieces.{comment_len}
use Rattle.phases.specs.inside.Reading.{bytes_at}
use Rattle.phases.specs.inside.Along.{AlongComment}
use Rattle.phases.proofs.cursor.Cursor.comment.Given as goal

abbrev pub invariant-loop-step : goal.invariant-loop-step
invariant-loop-step l =
    AlongComment l.initial.self (comment_len false (bytes_at l.initial.self)) l.count l.at (comment_len l.star (bytes_at l.at))

abbrev pub decreases-loop-step : goal.decreases-loop-step
decreases-loop-step l = length l.at.rest.now
