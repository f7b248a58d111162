use Rattle.std.proofs.Common.{arith, ◌∙◌, ◌≡◌, ◌+◌, sym, ap, refl, suc, true}
use Rattle.asm.proofs.Ends.{few_low, not_low}
use Rattle.asm.specs.Layout.{item_at, size}
use Rattle.asm.proofs.Grow.{item_read}
use Rattle.asm.proofs.check.ends_low.Goals as goal

pub returns-then-are_few : goal.returns-then-are_few
returns-then-are_few c = few_low c.args.base c.args.items.now c.if-are_few.ensures

pub returns-then-at-ge1879048192 : goal.returns-then-at-ge1879048192
returns-then-at-ge1879048192 c = not_low c.args.base c.args.items.now 0 c.args.base (omega arith) refl (omega arith)

pub returns-then-at-ge1879048192-2 : goal.returns-then-at-ge1879048192-2
returns-then-at-ge1879048192-2 c =
    let xs = c.args.items.now in
    let i = c.loop-i.i in
    let same : item_at xs i ≡ c.index-items-i.result = item_read xs i c.index-items-i.result c.loop-i-test.true c.index-items-i.is in
    let long : size true (item_at xs i) ≡ c.size-at.result = ap (size true) same ∙ sym c.size-at.ensures.value in
    not_low c.args.base xs (suc i) (c.loop-i.at + c.size-at.result) (omega arith) (omega (arith, long, c.loop-i.invariant.at_is)) c.if-at-ge1879048192-2.true
