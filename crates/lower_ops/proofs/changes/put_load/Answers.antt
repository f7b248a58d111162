use Rattle.lower_ops.proofs.changes.put_load.Goals as goal

pub returns-in_ok-put_moved : goal.returns-in_ok-put_moved
returns-in_ok-put_moved c = rw c.if-kept.true (c.in_ok-put_moved.ensures c.args.ty)
