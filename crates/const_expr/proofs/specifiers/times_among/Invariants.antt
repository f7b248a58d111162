use Rattle.std.proofs.Common.{◌≡◌, ◌+◌, ◌≤◌, drop}
use Rattle.typing_spec.specs.Specifiers as typed
use Rattle.const_expr.proofs.specifiers.times_among.Given as goal

abbrev pub invariant-loop-specifier : goal.invariant-loop-specifier
invariant-loop-specifier l =
    (l.count + typed.times l.word (typed.words_of (drop l.specifier-index l.specifiers)) ≡ typed.times l.word (typed.words_of l.specifiers)) × (l.count ≤ l.specifier-index)
