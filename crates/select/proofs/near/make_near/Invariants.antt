use Rattle.std.proofs.Common.{◌≡◌}
use Rattle.select.proofs.Nearer.{near_to}
use Rattle.select.proofs.near.make_near.Given as goal

abbrev pub invariant-loop-number : goal.invariant-loop-number
invariant-loop-number l = l.items ≡ near_to l.number l.initial.items
