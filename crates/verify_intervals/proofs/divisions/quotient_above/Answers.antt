use Rattle.std.proofs.Common.{◌≡◌, ◌∙◌, arith, ap, to_z, of_z, w64, rules, int_div}
use Rattle.std.proofs.lemmas.Int.{ints}
use Rattle.std.proofs.Math.Facts.{to_z-of_z}
use Rattle.verify_intervals.proofs.Operators.{quotient_some}
use Rattle.verify_intervals.proofs.divisions.quotient_above.Goals as goal

pub returns : goal.returns
returns c =
    let whole = c.with_zero-whole.result in
    let same : to_z w64 (of_z w64 c.args.j.low) ≡ c.args.j.low = search (rules, to_z-of_z) in
    let low = c.divided_by-k.ensures.low ∙ ap (λ d. int_div whole.low d) same in
    let high = c.divided_by-k.ensures.high ∙ ap (λ d. int_div whole.high d) same in
    quotient_some c.args.ty c.args.i c.args.j whole _ c.ranged.result (omega (arith, ints, c.if-j-le0.false)) c.with_zero-whole.ensures.all c.with_zero-whole.ensures.low c.with_zero-whole.ensures.high low high c.ranged.ensures
