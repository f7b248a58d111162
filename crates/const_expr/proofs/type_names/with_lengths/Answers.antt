use Rattle.std.proofs.Common.{arith}
use Rattle.const_expr.proofs.Limits.{over_limit, within_limit}
use Rattle.const_expr.proofs.type_names.with_lengths.Goals as goal

pub returns-then-bytes_in-gt-OBJECT_LIMIT-clause-err : goal.returns-then-bytes_in-gt-OBJECT_LIMIT-clause-err
returns-then-bytes_in-gt-OBJECT_LIMIT-clause-err c =
    over_limit c.args.pos (record { element = c.args.element; constant = c.args.constant; lengths = c.args.lengths.items }) c.bytes_in.result c.broken.result _
    (rw c.deref.ensures.value at (c.bytes_in.ensures c.args.constant)) (omega (arith, c.if-bytes_in-gt-OBJECT_LIMIT.true)) c.broken.ensures

pub returns-clause-ok : goal.returns-clause-ok
returns-clause-ok c =
    within_limit c.args.pos (record { element = c.args.element; constant = c.args.constant; lengths = c.args.lengths.items }) c.bytes_in.result _
    (rw c.deref.ensures.value at (c.bytes_in.ensures c.args.constant)) (omega (arith, c.if-bytes_in-gt-OBJECT_LIMIT.false))
