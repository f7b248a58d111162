use Rattle.std.proofs.Common.{◌≡◌, ℕ, ◌<◌, true, get_or}
use Rattle.lexer.specs.Digits.{is_digit}
use Rattle.lexer.proofs.numbers.digit_count.Given as goal

abbrev pub invariant-loop-index : goal.invariant-loop-index
invariant-loop-index l = (k : ℕ) → k < l.index → is_digit l.base (get_or l.text k 0) ≡ true
