use Rattle.lower_ops.proofs.Parts.{two}
use Rattle.tac.proofs.Blocks.{leaves_wrote}
use Rattle.tac.proofs.leaves.put_return.Goals as goal

pub returns : goal.returns
returns c = λ out again. two c.in_ok-put.ensures (leaves_wrote c.args.back c.in_ok-put-2.ensures)
