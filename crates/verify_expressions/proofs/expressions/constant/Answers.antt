use Rattle.std.proofs.Common.{◌≡◌, to_z, of_z, w64, rules}
use Rattle.std.proofs.Math.Facts.{to_z-of_z}
use Rattle.verify_logic.proofs.Rules.{constant_rule}
use Rattle.verify_expressions.proofs.Steps.{in_single}
use Rattle.verify_expressions.proofs.expressions.constant.Goals as goal

pub returns : goal.returns
returns c = let same : to_z w64 (of_z w64 c.args.v) ≡ c.args.v = search (rules, to_z-of_z) in
    constant_rule _ _ _ _ c.single-interval.result (in_single c.single-interval.result c.args.v (to_z w64 (of_z w64 c.args.v)) same c.single-interval.ensures)
