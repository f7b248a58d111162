use Rattle.std.proofs.Common.{refl}
use Rattle.const_expr.proofs.Sizes.{word_told}
use Rattle.const_expr.proofs.measures.size_is.Goals as goal

pub returns : goal.returns
returns c = λ size e. c.size_constant.ensures size (word_told c.args.bytes size _ c.from.result e refl c.from.ensures)
