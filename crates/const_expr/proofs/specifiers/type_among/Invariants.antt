use Rattle.std.proofs.Common.{◌≡◌, drop, map}
use Rattle.typing_spec.specs.Specifiers as typed
use Rattle.const_expr.specs.Typings.{word_set_of}
use Rattle.const_expr.proofs.specifiers.type_among.Given as goal

abbrev pub invariant-loop-set : goal.invariant-loop-set
invariant-loop-set l = typed.type_among (map word_set_of (drop l.set-index l.sets)) (typed.words_of l.specifiers) ≡ typed.type_among (map word_set_of l.sets) (typed.words_of l.specifiers)
