use Rattle.std.proofs.Common.{◌≡◌, ◌∙◌, ◌*ℤ◌, arith, ap, to_z, of_z, w64, rules}
use Rattle.std.proofs.lemmas.Int.{ints}
use Rattle.std.proofs.Math.Facts.{to_z-of_z}
use Rattle.verify_intervals.proofs.Operators.{product_some}
use Rattle.verify_intervals.proofs.operations.natural_product.Goals as goal

pub returns : goal.returns
returns c =
    let same : to_z w64 (of_z w64 c.in-Some.high) ≡ c.in-Some.high = search (rules, to_z-of_z) in
    let left : to_z w64 (of_z w64 c.args.i.high) ≡ c.args.i.high = search (rules, to_z-of_z) in
    let right : to_z w64 (of_z w64 c.args.j.high) ≡ c.args.j.high = search (rules, to_z-of_z) in
    product_some c.args.ty c.args.i c.args.j _ c.ranged.result (omega (arith, ints, c.if-i-lt0.false)) (omega (arith, ints, c.if-j-lt0.false)) (omega (arith, ints)) (same ∙ c.in-Some.ensures ∙ ap (λ a. a *ℤ to_z w64 (of_z w64 c.args.j.high)) left ∙ ap (λ b. c.args.i.high *ℤ b) right) c.ranged.ensures
