use Rattle.std.proofs.Common.{arith}
use Rattle.phases.proofs.LexicalLemmas.{enclosed_some}
use Rattle.phases.proofs.cursor.Cursor.enclosed.Goals as goal

pub returns : goal.returns
returns c =
    enclosed_some c.args.self c.in-Some.step c.args.first c.args.close c.args.least c.args.escapes c.in-Some-to_close.tail c.in-Some.ensures (omega arith) c.in-Some-to_close.ensures (omega arith)
