use Rattle.std.proofs.Common.{◌≡◌, ◌∙◌, ◌-ℤ◌, ◌*ℤ◌, pos, ap, to_z, of_z, w64, rules}
use Rattle.std.proofs.Math.Facts.{to_z-of_z}
use Rattle.verify_intervals.proofs.Operators.{signed_product_some}
use Rattle.verify_intervals.proofs.operations.signed_product.Goals as goal

pub returns : goal.returns
returns c =
    let a = c.in-Some.a in
    let b = c.in-Some-greatest_magnitude.b in
    let left : to_z w64 (of_z w64 a) ≡ a = search (rules, to_z-of_z) in
    let right : to_z w64 (of_z w64 b) ≡ b = search (rules, to_z-of_z) in
    let low = c.in-Some-around_product.ensures.low ∙ ap (λ x. pos 0 -ℤ (x *ℤ to_z w64 (of_z w64 b))) left ∙ ap (λ y. pos 0 -ℤ (a *ℤ y)) right in
    let high = c.in-Some-around_product.ensures.high ∙ ap (λ x. x *ℤ to_z w64 (of_z w64 b)) left ∙ ap (λ y. a *ℤ y) right in
    signed_product_some c.args.ty c.args.i c.args.j _ a b c.ranged.result c.in-Some.ensures c.in-Some-greatest_magnitude.ensures low high c.ranged.ensures
