use Rattle.std.proofs.Common.{arith}
use Rattle.std.proofs.lemmas.Int.{ints}
use Rattle.verify_logic.proofs.Compares.{at_most_narrows}
use Rattle.verify_intervals.proofs.relations.at_most.Goals as goal

pub returns : goal.returns
returns c = at_most_narrows c.args.i c.args.j _ _ _ _ (omega (arith, ints)) (omega (arith, ints)) c.cut_above-left.ensures c.cut_below-right.ensures
