use Rattle.std.proofs.Common.{◌≡◌, ◌-ℤ◌, ◌<ℤ◌, ℤ, pos, arith, subst, to_z, of_z, w64, rules}
use Rattle.std.proofs.lemmas.Int.{ints}
use Rattle.std.proofs.Math.Facts.{to_z-of_z}
use Rattle.std.specs.Prelude.{IfSome}
use Rattle.verify_logic.specs.States.{In}
use Rattle.verify_intervals.proofs.Operators.{remainder_some, within_range}
use Rattle.verify_intervals.proofs.divisions.remainder_above.Goals as goal

pub returns-then-fits : goal.returns-then-fits
returns-then-fits c =
    let whole = c.with_zero-whole.result in
    let same : to_z w64 (of_z w64 c.args.j.high) ≡ c.args.j.high = search (rules, to_z-of_z) in
    let P : ℤ → Type 0 = λ d. IfSome c.cut_remainder.result (λ r. (v : ℤ) → In whole v → (pos 0 -ℤ d) <ℤ v → v <ℤ d → In r v) in
    remainder_some c.args.ty c.args.i c.args.j whole c.cut_remainder.result (omega (arith, ints, c.if-j-le0.false)) c.with_zero-whole.ensures.all c.with_zero-whole.ensures.low c.with_zero-whole.ensures.high (within_range c.args.ty whole _ c.all_of-all.ensures (c.lies_in-fits.ensures c.if-fits.true)) (subst P same c.cut_remainder.ensures)
