use Rattle.lower_ops.proofs.Operated.{one_as, truths_wrote}
use Rattle.lower_ops.proofs.changes.put_truths.Goals as goal

pub returns : goal.returns
returns c = truths_wrote c.args.target c.ahead-end.result (one_as c.move_to.ensures c.in_ok-put.ensures) c.in_ok-put-2.ensures (one_as c.move_to-2.ensures c.in_ok-put-3.ensures) c.ahead-end.ensures
