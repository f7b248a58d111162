use Rattle.std.proofs.Common.{arith}
use Rattle.std.proofs.lemmas.Int.{ints}
use Rattle.verify_intervals.proofs.Operators.{mask_left, mask_all}
use Rattle.verify_intervals.proofs.operations.left_mask.Goals as goal

pub returns : goal.returns
returns c = mask_left c.args.ty c.args.i c.args.j _ (omega (arith, ints, c.if-i-lt0.false)) (omega (arith, ints, c.if-all-i.false, mask_all c.args.ty c.all_of-all.result c.all_of-all.ensures)) c.with_low-r.ensures.low c.with_low-r.ensures.high
