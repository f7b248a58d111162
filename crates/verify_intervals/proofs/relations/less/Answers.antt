use Rattle.std.proofs.Common.{arith}
use Rattle.std.proofs.lemmas.Int.{ints}
use Rattle.verify_logic.proofs.Compares.{less_narrows}
use Rattle.verify_intervals.proofs.relations.less.Goals as goal

pub returns : goal.returns
returns c = less_narrows _ _ _ _ _ _ (omega (arith, ints, c.in-Some.ensures)) (omega (arith, ints, c.in-Some-add.ensures)) c.cut_above-left.ensures c.cut_below-right.ensures
