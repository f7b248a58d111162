use Rattle.std.proofs.Common.{◌≡◌, ◌∙◌, ◌<◌, length, sym, ap, true}
use Rattle.std.proofs.lemmas.Bool.{ltb-true}
use Rattle.std.specs.Prelude.{slice_get, Some}
use Rattle.select.specs.Selected as selected
use Rattle.select.proofs.Lists.{got_here}
use Rattle.select.proofs.Shortened.{nothing_on}
use Rattle.select.proofs.shortening.are_nothing.Goals as goal

pub loop-number-preserved : goal.loop-number-preserved
loop-number-preserved c =
    let code = c.args.code.now in
    let at = c.loop-number.number in
    let x = c.in-Some.instruction.now in
    let inside : at < length code = ltb-true at (length code) (sym c.in-Some.ensures.lookup.0) in
    let got : slice_get code at ≡ Some x = got_here code at x inside c.in-Some.ensures.lookup.1 in
    let here : selected.is_nothing_if (slice_get code at) ≡ true = ap selected.is_nothing_if got ∙ (sym c.is_nothing.ensures ∙ c.if-not-is_nothing.false) in
    nothing_on code at c.args.to _ c.loop-number-test.true here c.loop-number.invariant
