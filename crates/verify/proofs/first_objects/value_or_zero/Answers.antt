use Rattle.std.proofs.Common.{◌≡◌, ◌∙◌, pos, get_or, to_z, of_z, w64, rules}
use Rattle.std.proofs.Math.Facts.{to_z-of_z}
use Rattle.verify.proofs.FirstFacts.{zero_past, value_there}
use Rattle.verify.proofs.first_objects.value_or_zero.Goals as goal

pub returns-then-j-values : goal.returns-then-j-values
returns-then-j-values c =
    let same : to_z w64 (of_z w64 (get_or c.args.values.now c.args.j (pos 0))) ≡ get_or c.args.values.now c.args.j (pos 0) = search (rules, to_z-of_z) in
    same ∙ value_there _ _ _ c.if-j-values.true

pub returns-else-j-values : goal.returns-else-j-values
returns-else-j-values c = zero_past _ _ c.if-j-values.false
