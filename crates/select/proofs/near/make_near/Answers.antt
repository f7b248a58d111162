use Rattle.std.proofs.Common.{◌≡◌, ◌∙◌, ap, get_or, set}
use Rattle.asm.specs.Layout.{nearer}
use Rattle.select.proofs.Nearer.{near_to, next_own, near_next, near_all}
use Rattle.select.proofs.near.make_near.Goals as goal

pub loop-number-preserved : goal.loop-number-preserved
loop-number-preserved c =
    let old = c.args.items.now in
    let k = c.loop-number.number in
    let x = c.index-items-number.result in
    let held : c.loop-number.items ≡ near_to k old = c.loop-number.invariant in
    let own : x ≡ get_or old k x = c.index-items-number.is ∙ (ap (λ ys. get_or ys k x) held ∙ next_own k old x) in
    ap (λ ys. set ys k c.nearer.result) held ∙ (ap (λ y. set (near_to k old) k y) (c.nearer.ensures ∙ ap nearer own) ∙ near_next k old x c.loop-number-test.true)

pub returns : goal.returns
returns c = c.loop-number.invariant ∙ near_all c.loop-number.number c.args.items.now c.loop-number-test.false
