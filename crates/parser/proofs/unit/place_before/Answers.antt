use Rattle.std.proofs.Common.{arith}
use Rattle.parser.proofs.UnitParts.{token_before}
use Rattle.parser.proofs.unit.place_before.Goals as goal

pub returns : goal.returns
returns c = λ us n r. (_, token_before c.args.tokens.now us _ _ (omega arith) r)
