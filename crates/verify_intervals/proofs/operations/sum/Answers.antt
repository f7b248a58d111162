use Rattle.std.proofs.Common.{arith}
use Rattle.std.proofs.lemmas.Int.{ints}
use Rattle.verify_intervals.proofs.Operators.{sum_some}
use Rattle.verify_intervals.proofs.operations.sum.Goals as goal

pub returns : goal.returns
returns c = sum_some c.args.ty c.args.i c.args.j _ c.ranged.result (omega (arith, ints, c.in-Some.ensures)) (omega (arith, ints, c.in-Some-add.ensures)) c.ranged.ensures
