use Rattle.std.proofs.Common.{arith}
use Rattle.std.proofs.lemmas.Int.{ints}
use Rattle.verify_logic.proofs.Compares.{same_narrows}
use Rattle.verify_intervals.proofs.relations.same.Goals as goal

pub returns : goal.returns
returns c = same_narrows c.args.i c.args.j _ _ _ _ _ _ _ _ (omega (arith, ints)) (omega (arith, ints)) (omega (arith, ints)) (omega (arith, ints)) c.cut_below-left_above.ensures c.cut_above-left.ensures c.cut_below-right_above.ensures c.cut_above-right.ensures
