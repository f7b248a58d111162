use Rattle.std.proofs.Common.{arith}
use Rattle.std.proofs.lemmas.Int.{ints}
use Rattle.verify_intervals.proofs.Operators.{quotient_below_some}
use Rattle.verify_intervals.proofs.divisions.quotient_below.Goals as goal

pub returns : goal.returns
returns c =
    let whole = c.with_zero-whole.result in
    let low = c.divided_by-k.ensures.low in
    let high = c.divided_by-k.ensures.high in
    quotient_below_some c.args.ty c.args.i c.args.j whole _ _ _ c.ranged.result (omega (arith, ints, c.if-j-ge0.false)) (omega (arith, ints, c.in-Some.ensures)) c.with_zero-whole.ensures.all c.with_zero-whole.ensures.low c.with_zero-whole.ensures.high low high c.in-Some-opposite.ensures.low c.in-Some-opposite.ensures.high c.ranged.ensures
