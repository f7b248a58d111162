use Rattle.lexer.proofs.NumberLemmas.{too_large}
use Rattle.lexer.proofs.numbers.value.Goals as goal

pub returns-in_default : goal.returns-in_default
returns-in_default c = too_large c.args.base c.loop-byte.value c.loop-byte.byte-index 18446744073709551615 _ c.args.digits.now c.requires c.loop-byte-test.true c.loop-byte.invariant c.in_default.ensures
