use Rattle.std.proofs.Common.{◌≡◌, drop}
use Rattle.lexer.specs.Numbers.{typed}
use Rattle.lexer.proofs.numbers.typed.Given as goal

abbrev pub invariant-loop-of : goal.invariant-loop-of
invariant-loop-of l = typed l.value (drop l.of-index l.types) ≡ typed l.value l.types
