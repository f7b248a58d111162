use Rattle.std.proofs.Common.{◌≡◌, drop}
use Rattle.frames_reach.specs.layer.Functions as reach
use Rattle.frames_reach.proofs.marks.are_right.Given as goal

abbrev pub invariant-loop-number : goal.invariant-loop-number
invariant-loop-number l = reach.are_right l.marks l.number (drop l.number l.code) ≡ reach.are_right l.marks 0 l.code
