use Rattle.std.proofs.Common.{◌≡◌, drop, zero}
use Rattle.frames_hoist.specs.layer.Hoisting as hoisting
use Rattle.frames_hoist.proofs.tests.are_straight.Given as goal

abbrev pub invariant-loop-number : goal.invariant-loop-number
invariant-loop-number l = hoisting.are_straight l.start l.number (drop l.number l.code) ≡ hoisting.are_straight l.start zero l.code
