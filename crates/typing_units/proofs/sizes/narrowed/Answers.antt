use Rattle.typing_units.proofs.Bytes.{narrowed_small, narrowed_large}
use Rattle.typing_units.proofs.sizes.narrowed.Goals as goal

pub returns-then-number-lt4294967295 : goal.returns-then-number-lt4294967295
returns-then-number-lt4294967295 c = λ x e. narrowed_small _ x c.if-number-lt4294967295.true e

pub returns-else-number-lt4294967295 : goal.returns-else-number-lt4294967295
returns-else-number-lt4294967295 c = λ x e. narrowed_large _ x c.if-number-lt4294967295.false e
