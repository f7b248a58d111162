use Rattle.std.proofs.Common.{◌≡◌, ◌+◌, ◌≤◌, drop}
use Rattle.typing_spec.specs.Specifiers as typed
use Rattle.const_expr.proofs.specifiers.times.Given as goal

abbrev pub invariant-loop-first : goal.invariant-loop-first
invariant-loop-first l = (l.count + typed.times l.word (drop l.first-index l.words) ≡ typed.times l.word l.words) × (l.count ≤ l.first-index)
