use Rattle.std.proofs.Common.{◌≡◌, false, length}
use Rattle.phases.specs.declared.token.Place.TheVariants.{Start}
use Rattle.phases.specs.Lines.{found}
use Rattle.phases.specs.inside.Reading.{text_at, bytes_at}
use Rattle.phases.specs.inside.Closing.{IsHopeless}
use Rattle.phases.specs.inside.Scanning.{whole}
use Rattle.phases.proofs.lines.token_lines.Given as goal

abbrev pub invariant-loop-first : goal.invariant-loop-first
invariant-loop-first l = record {
  known_is : IsHopeless l.known (bytes_at l.at);
  file_is : l.scanner.file ≡ l.initial.file;
  whole_is : found l.initial.file 0 Start false (text_at l.initial.start) ≡ whole l.scanner (found l.initial.file 0 l.scanner.place l.scanner.space (text_at l.at));
}

abbrev pub decreases-loop-first : goal.decreases-loop-first
decreases-loop-first l = length l.at.rest.now
