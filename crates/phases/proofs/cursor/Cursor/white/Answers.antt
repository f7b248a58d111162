use Rattle.std.proofs.Common.{arith}
use Rattle.phases.proofs.RunLemmas.{white_run, white_most}
use Rattle.phases.proofs.cursor.Cursor.white.Goals as goal

pub past-requires : goal.past-requires
past-requires c = omega (arith, c.white_bytes-count.ensures, white_most c.args.self.rest.now)

pub returns : goal.returns
returns c = white_run c.args.self c.past.result c.white_bytes-count.result c.white_bytes-count.ensures c.past.ensures.rest c.past.ensures.line
