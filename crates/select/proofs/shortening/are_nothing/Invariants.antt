use Rattle.std.proofs.Common.{◌≡◌, ◌-◌}
use Rattle.select.specs.Selected as selected
use Rattle.select.proofs.shortening.are_nothing.Given as goal

abbrev pub invariant-loop-number : goal.invariant-loop-number
invariant-loop-number l = selected.are_nothing l.code l.number (l.to - l.number) ≡ selected.are_nothing l.code l.from (l.to - l.from)
