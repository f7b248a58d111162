use Rattle.std.proofs.Common.{arith, ap, ◌∙◌, sym, length, ◌<◌}
use Rattle.std.proofs.lemmas.List.{get_or_default}
use Rattle.std.specs.Prelude.{slice_index}
use Rattle.asm.proofs.Widening.{widens_at, near_counted}
use Rattle.asm.specs.declared.item.Item.TheVariants.{Mark, Branch}
use Rattle.asm.specs.inside.Choice.{longs}
use Rattle.asm.proofs.layout.widen_part.Goals as goal

pub loop-i-preserved : goal.loop-i-preserved
loop-i-preserved c =
    let xs = c.args.items.now in
    let i = c.loop-i.i in
    let lt : i < length xs = omega arith in
    elim c.match-items-i.branch [
      | goal.in-Branch+then-not-long-i+then-low-home+then-home-high+then-not-is_near w ↦ (
          let b = w.in-Branch in
          let to = w.number.result in
          let is = get_or_default xs i (Mark 0) _ lt ∙ b.is ∙ ap (Branch b.test b.left b.right) (sym w.number.ensures) in
          rw w.long-is (widens_at c.args.homes.now c.args.base xs c.args.long.now c.loop-i.long i b.test b.left b.right to c.requires.table c.loop-i.invariant lt (omega arith) is (λ n. w.if-not-is_near.ensures.far (near_counted c.count.new.places c.args.base xs (longs c.args.long.now) c.args.low c.args.high i (slice_index c.args.homes.now to) c.count.ensures (omega arith) (omega arith) w.if-low-home.true w.if-home-high.true n))))
      | goal.in-Branch+else-not-long-i w ↦ rw w.long-is c.loop-i.invariant
      | goal.in_default w ↦ rw w.long-is c.loop-i.invariant
    ]
