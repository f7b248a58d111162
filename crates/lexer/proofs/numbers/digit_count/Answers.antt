use Rattle.std.proofs.Common.{sym, ◌∙◌, arith}
use Rattle.lexer.specs.Digits.{is_digit}
use Rattle.lexer.proofs.NumberLemmas.{stops_at, passes_all}
use Rattle.lexer.proofs.numbers.digit_count.Goals as goal

pub returns-then-not-is_digit-clause-count : goal.returns-then-not-is_digit-clause-count
returns-then-not-is_digit-clause-count c = stops_at (is_digit c.args.base) c.args.text.now c.loop-index.index c.loop-index-test.true c.loop-index.invariant (sym c.is_digit.ensures ∙ c.if-not-is_digit.true)

pub returns-clause-count : goal.returns-clause-count
returns-clause-count c = passes_all (is_digit c.args.base) c.args.text.now c.loop-index.index (omega arith) c.loop-index-test.false c.loop-index.invariant
