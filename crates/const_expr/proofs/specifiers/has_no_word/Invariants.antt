use Rattle.std.proofs.Common.{◌≡◌, drop}
use Rattle.typing_spec.specs.Specifiers as typed
use Rattle.const_expr.specs.Typings.{is_empty}
use Rattle.const_expr.proofs.specifiers.has_no_word.Given as goal

abbrev pub invariant-loop-specifier : goal.invariant-loop-specifier
invariant-loop-specifier l = is_empty (typed.words_of (drop l.specifier-index l.specifiers)) ≡ is_empty (typed.words_of l.specifiers)
