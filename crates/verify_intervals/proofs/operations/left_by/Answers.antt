use Rattle.std.proofs.Common.{◌≡◌, ◌∙◌, ◌*ℤ◌, ◌^◌, pos, arith, ap, to_z, of_z, w64, rules}
use Rattle.std.proofs.lemmas.Int.{ints}
use Rattle.std.proofs.Math.Facts.{to_z-of_z}
use Rattle.ctypes.specs.Arithmetic.{magnitude}
use Rattle.verify_intervals.proofs.Operators.{left_some}
use Rattle.verify_intervals.proofs.operations.left_by.Goals as goal

pub returns : goal.returns
returns c =
    let most = c.power-most.result in
    let count : to_z w64 (of_z w64 c.args.j.high) ≡ c.args.j.high = search (rules, to_z-of_z) in
    let left : to_z w64 (of_z w64 c.args.i.high) ≡ c.args.i.high = search (rules, to_z-of_z) in
    let right : to_z w64 (of_z w64 most) ≡ most = search (rules, to_z-of_z) in
    let value = c.power-most.ensures.value ∙ ap (λ x. pos (2 ^ magnitude x)) count in
    let high = c.in-Some.ensures.high ∙ ap (λ x. x *ℤ to_z w64 (of_z w64 most)) left ∙ ap (λ y. c.args.i.high *ℤ y) right in
    left_some c.args.ty c.args.i c.args.j _ c.ranged.result most (omega (arith, ints, c.if-i-lt0.false)) c.requires.least.0 c.requires.most.0 c.requires.most.1 value c.in-Some.ensures.low high c.ranged.ensures
