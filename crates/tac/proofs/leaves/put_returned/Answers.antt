use Rattle.lower_ops.proofs.Parts.{three}
use Rattle.tac.proofs.Blocks.{leaves_wrote}
use Rattle.tac.proofs.leaves.put_returned.Goals as goal

pub returns : goal.returns
returns c = λ out again.
    three c.in_ok-put.ensures (rw (c.all_free.ensures.temporary, c.all_free.ensures.slot) at c.in_ok-put_converted.ensures) (leaves_wrote c.args.back c.in_ok-put-2.ensures)
