use Rattle.std.proofs.Common.{◌≡◌, drop}
use Rattle.lexer.specs.Digits.{value_behind, value_of}
use Rattle.lexer.proofs.numbers.value.Given as goal

abbrev pub invariant-loop-byte : goal.invariant-loop-byte
invariant-loop-byte l = value_behind l.base l.value (drop l.byte-index l.digits) ≡ value_of l.base l.digits
