use Rattle.std.proofs.Common.{length, ◌≤◌}
use Rattle.phases.specs.inside.Along.{Copied}
use Rattle.phases.proofs.cursor.Cursor.copied.Given as goal

abbrev pub invariant-loop-at : goal.invariant-loop-at
invariant-loop-at l = record {
  copied : Copied l.initial.self l.copy.items l.at;
  few : length l.copy.items ≤ l.count;
}

abbrev pub decreases-loop-at : goal.decreases-loop-at
decreases-loop-at l = length l.at.rest.now
