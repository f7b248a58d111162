use Rattle.std.proofs.Common.{◌≡◌, ◌∙◌, ◌^◌, pos, ap, to_z, of_z, w64, rules, int_div}
use Rattle.std.proofs.Math.Facts.{to_z-of_z}
use Rattle.ctypes.specs.Arithmetic.{magnitude}
use Rattle.verify_intervals.proofs.Operators.{right_rule}
use Rattle.verify_intervals.proofs.operations.right_by.Goals as goal

pub returns : goal.returns
returns c =
    let least = c.power-least.result in
    let whole = c.with_zero-whole.result in
    let count : to_z w64 (of_z w64 c.args.j.low) ≡ c.args.j.low = search (rules, to_z-of_z) in
    let divisor : to_z w64 (of_z w64 least) ≡ least = search (rules, to_z-of_z) in
    let bottom : to_z w64 (of_z w64 whole.low) ≡ whole.low = search (rules, to_z-of_z) in
    let value = c.power-least.ensures.value ∙ ap (λ x. pos (2 ^ magnitude x)) count in
    let high = c.with_low.ensures.high ∙ c.divided_by-k.ensures.high ∙ ap (λ d. int_div whole.high d) divisor in
    right_rule c.args.ty c.args.i c.args.j whole _ least c.requires.least.0 c.requires.most.1 value c.with_zero-whole.ensures.all c.with_zero-whole.ensures.low c.with_zero-whole.ensures.high (c.with_low.ensures.low ∙ bottom) high
