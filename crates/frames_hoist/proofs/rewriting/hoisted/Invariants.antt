use Rattle.std.proofs.Common.{◌≡◌, ◌≤◌, ◌++◌, drop, length, zero}
use Rattle.frames_hoist.specs.layer.Hoisting as hoisting
use Rattle.frames_hoist.proofs.rewriting.hoisted.Given as goal

abbrev pub invariant-loop-number : goal.invariant-loop-number
invariant-loop-number l =
    (l.made.items ++ hoisting.hoisted l.home l.pool l.start l.number l.count (drop l.number l.code) ≡ hoisting.hoisted l.home l.pool l.start zero zero l.code) × (l.count ≤ length l.pool)
