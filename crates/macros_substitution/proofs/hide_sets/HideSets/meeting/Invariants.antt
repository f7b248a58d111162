use Rattle.std.proofs.Common.{◌+◌}
use Rattle.macros_substitution.specs.inside.Both.{Holds}
use Rattle.macros_substitution.proofs.hide_sets.HideSets.meeting.Given as goal

abbrev pub invariant-loop-left : goal.invariant-loop-left
invariant-loop-left l = record {
  right : Holds l.self l.right l.fn.other;
  whole : Holds l.self l.whole l.fn.other;
}

abbrev pub decreases-loop-left : goal.decreases-loop-left
decreases-loop-left l = l.left + l.right
