use Rattle.std.proofs.Common.{◌≡◌, ◌-ℤ◌, ◌<ℤ◌, ℤ, pos, arith, subst, to_z, of_z, w64, rules}
use Rattle.std.proofs.lemmas.Int.{ints}
use Rattle.std.proofs.Math.Facts.{to_z-of_z}
use Rattle.std.specs.Prelude.{IfSome}
use Rattle.verify_logic.specs.States.{In}
use Rattle.verify_intervals.proofs.Operators.{remainder_below_some, within_range}
use Rattle.verify_intervals.proofs.divisions.remainder_below.Goals as goal

pub returns : goal.returns
returns c =
    let whole = c.with_zero-whole.result in
    let most = c.in-Some-subtract.most in
    let same : to_z w64 (of_z w64 most) ≡ most = search (rules, to_z-of_z) in
    let P : ℤ → Type 0 = λ d. IfSome c.cut_remainder.result (λ r. (v : ℤ) → In whole v → (pos 0 -ℤ d) <ℤ v → v <ℤ d → In r v) in
    remainder_below_some c.args.ty c.args.i c.args.j whole _ most c.cut_remainder.result (omega (arith, ints, c.if-j-ge0.false)) (omega (arith, ints, c.in-Some-subtract.ensures)) c.with_zero-whole.ensures.all c.with_zero-whole.ensures.low c.with_zero-whole.ensures.high (within_range c.args.ty whole _ c.all_of-all.ensures (c.lies_in-fits.ensures c.if-not-fits.false)) c.in-Some.ensures.low c.in-Some.ensures.high (within_range c.args.ty _ _ c.all_of-all.ensures (c.lies_in-turns.ensures c.if-not-turns.false)) (subst P same c.cut_remainder.ensures)
