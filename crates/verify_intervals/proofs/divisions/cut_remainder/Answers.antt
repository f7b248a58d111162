use Rattle.std.proofs.Common.{arith}
use Rattle.std.proofs.lemmas.Int.{ints}
use Rattle.verify_intervals.proofs.divisions.cut_remainder.Goals as goal

pub returns : goal.returns
returns c = λ v m a b. c.cut_below-both.ensures.is v (c.cut_above-upper.ensures.is v m (omega (arith, ints, c.in-Some.ensures, b))) (omega (arith, ints, c.in-Some-subtract.ensures, a))
