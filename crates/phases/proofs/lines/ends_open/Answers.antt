use Rattle.phases.proofs.EndLemmas.{open_some}
use Rattle.phases.proofs.lines.ends_open.Goals as goal

pub returns : goal.returns
returns c = open_some c.args.bytes.now c.is_empty.result c.ends_with.result c.is_empty.ensures c.if-is_empty.false c.ends_with.ensures.value
