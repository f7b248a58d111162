use Rattle.std.proofs.Common.{arith}
use Rattle.phases.proofs.RunLemmas.{ordinary_run, ordinary_most}
use Rattle.phases.proofs.cursor.Cursor.ordinary.Goals as goal

pub past-requires : goal.past-requires
past-requires c = omega (arith, c.ordinary_bytes-count.ensures, ordinary_most c.args.stop c.args.self.rest.now)

pub returns : goal.returns
returns c =
    ordinary_run c.args.self c.past.result c.args.stop c.ordinary_bytes-count.result c.ordinary_bytes-count.ensures c.past.ensures.rest c.past.ensures.line
