use Rattle.std.proofs.Common.{arith}
use Rattle.lower_ops.proofs.Rows.{text_none}
use Rattle.lower_ops.proofs.row_sizes.text_size.Goals as goal

pub returns-else-depth-eq1 : goal.returns-else-depth-eq1
returns-else-depth-eq1 c = text_none c.args.depth c.args.length (omega (arith, c.if-depth-eq0.false, c.if-depth-eq1.false))
