use Rattle.std.proofs.Common.{◌≡◌, ◌+◌, ◌-◌, ◌≤◌, ℕ, length, get_or}
use Rattle.typing_scopes.proofs.newest_names.reach.Given as goal

abbrev pub invariant-loop-newest : goal.invariant-loop-newest
invariant-loop-newest l = ((n : ℕ) → get_or l.newest.items n 0 ≡ get_or l.initial.newest.items n 0) × (length l.initial.newest.items ≤ length l.newest.items)

abbrev pub decreases-loop-newest : goal.decreases-loop-newest
decreases-loop-newest l = l.name + 1 - length l.newest.items
