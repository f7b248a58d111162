use Rattle.std.proofs.Common.{arith}
use Rattle.phases.proofs.RunLemmas.{white_within}
use Rattle.phases.proofs.runs.white_bytes.Goals as goal

pub overflow_add-result : goal.overflow_add-result
overflow_add-result c = omega (arith, white_within _ c.white_front.result c.args.bytes.now c.if-one-bytes.true c.white_front.ensures)
