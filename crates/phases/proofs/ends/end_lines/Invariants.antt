use Rattle.std.proofs.Common.{◌≡◌, ◌++◌, length}
use Rattle.phases.specs.declared.token.Place.TheVariants.{Start}
use Rattle.phases.specs.Text.{logical}
use Rattle.phases.specs.LineEnds.{line_ends}
use Rattle.phases.specs.inside.Reading.{text_at, bytes_at}
use Rattle.phases.specs.inside.Closing.{IsHopeless}
use Rattle.phases.proofs.ends.end_lines.Given as goal

abbrev pub invariant-loop-first : goal.invariant-loop-first
invariant-loop-first l = record {
  known_is : IsHopeless l.known (bytes_at l.at);
  ends_is : line_ends 0 Start (logical 1 l.initial.bytes) ≡ l.ends.items ++ line_ends 0 l.place (text_at l.at);
}

abbrev pub decreases-loop-first : goal.decreases-loop-first
decreases-loop-first l = length l.at.rest.now
