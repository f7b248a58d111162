use Rattle.std.proofs.Common.{◌≡◌, ◌≤◌, ◌-◌, drop, zero}
use Rattle.frames_hoist.specs.layer.Hoisting as hoisting
use Rattle.frames_hoist.proofs.rewriting.filled_by.Given as goal

abbrev pub invariant-loop-number : goal.invariant-loop-number
invariant-loop-number l =
    (hoisting.filled_at l.most l.start l.number l.count (drop l.number l.code) (l.start - l.number) ≡ hoisting.filled_at l.most l.start zero zero l.code l.start) × (l.count ≤ l.most)
