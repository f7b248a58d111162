use Rattle.std.proofs.Common.{◌≡◌, to_z, of_z, w64, rules, arith}
use Rattle.std.proofs.lemmas.Int.{ints}
use Rattle.std.proofs.Math.Facts.{to_z-of_z}
use Rattle.verify_expressions.proofs.Steps.{in_single}
use Rattle.verify_logic.proofs.Compares.{number_looks}
use Rattle.verify_expressions.proofs.comparisons.number_looked.Goals as goal

pub returns : goal.returns
returns c = let same : to_z w64 (of_z w64 c.args.v) ≡ c.args.v = search (rules, to_z-of_z) in
    number_looks _ _ _ _ _ _ (in_single c.single-interval.result c.args.v (to_z w64 (of_z w64 c.args.v)) same c.single-interval.ensures) (omega (arith, ints))
