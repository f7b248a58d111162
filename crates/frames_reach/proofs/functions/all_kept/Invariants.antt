use Rattle.std.proofs.Common.{◌≡◌, ◌++◌, drop}
use Rattle.frames_reach.specs.layer.Functions as reach
use Rattle.frames_reach.proofs.functions.all_kept.Given as goal

abbrev pub invariant-loop-number : goal.invariant-loop-number
invariant-loop-number l = l.made.items ++ reach.all_kept l.marks l.number (drop l.number l.code) ≡ reach.all_kept l.marks 0 l.code
