use Rattle.std.proofs.Common.{arith}
use Rattle.std.proofs.lemmas.Int.{ints}
use Rattle.verify_intervals.proofs.Operators.{difference_some}
use Rattle.verify_intervals.proofs.operations.difference.Goals as goal

pub returns : goal.returns
returns c = difference_some c.args.ty c.args.i c.args.j _ c.ranged.result (omega (arith, ints, c.in-Some.ensures)) (omega (arith, ints, c.in-Some-subtract.ensures)) c.ranged.ensures
