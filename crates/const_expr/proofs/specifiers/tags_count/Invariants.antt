use Rattle.std.proofs.Common.{◌≡◌, ◌+◌, ◌≤◌, drop}
use Rattle.typing_spec.specs.Specifiers as typed
use Rattle.const_expr.proofs.specifiers.tags_count.Given as goal

abbrev pub invariant-loop-specifier : goal.invariant-loop-specifier
invariant-loop-specifier l =
    (l.count + typed.count (typed.tags_of (drop l.specifier-index l.specifiers)) ≡ typed.count (typed.tags_of l.specifiers)) × (l.count ≤ l.specifier-index)
