use Rattle.std.proofs.Common.{arith, ap}
use Rattle.asm.proofs.Widening.{stays_branch, stays_other, grows, near_measured, home_inside}
use Rattle.std.proofs.lemmas.List.{get_or_default}
use Rattle.std.proofs.Common.{◌∙◌, sym}
use Rattle.asm.specs.declared.item.Item.TheVariants.{Mark, Branch}
use Rattle.asm.specs.inside.Choice.{longs}
use Rattle.asm.proofs.layout.widen.Goals as goal
use Rattle.asm.proofs.layout.widen.Goals.{in-Branch+then-not-long-i+then-not-is_near, in-Branch+else-not-long-i, in_default, else-not-long-i-via-then-not-long-i+else-not-is_near, else-not-long-i-via-else-not-long-i}

pub loop-i-preserved : goal.loop-i-preserved
loop-i-preserved c =
    let xs = c.args.items.now in
    let i = c.loop-i.i in
    elim c.match-items-i.branch [
      | in-Branch+then-not-long-i+then-not-is_near w ↦ (
          let b = w.in-Branch in
          let to = w.number.result in
          let is = get_or_default xs i (Mark 0) _ c.loop-i-test.true ∙ b.is ∙ ap (Branch b.test b.left b.right) (sym w.number.ensures) in
          let inside = home_inside c.args.homes.now xs i to _ _ _ c.requires.table c.loop-i-test.true is in
          let near = near_measured c.args.places.now c.args.homes.now c.args.base xs (longs c.args.long.now) i to c.requires.measured (omega arith) inside in
          rw (w.long-is, w.changed-is) (grows c.args.homes.now c.args.base xs c.args.long.now c.loop-i.long i c.loop-i.changed b.test b.left b.right to c.requires.table c.loop-i.invariant c.loop-i-test.true (omega arith) is w.if-not-long-i.true (λ n. w.if-not-is_near.ensures.far (near.0 n))))
      | in-Branch+else-not-long-i w ↦ (
          let b = w.in-Branch in
          let to = w.number.result in
          let is = get_or_default xs i (Mark 0) _ c.loop-i-test.true ∙ b.is ∙ ap (Branch b.test b.left b.right) (sym w.number.ensures) in
          let inside = home_inside c.args.homes.now xs i to _ _ _ c.requires.table c.loop-i-test.true is in
          let near = near_measured c.args.places.now c.args.homes.now c.args.base xs (longs c.args.long.now) i to c.requires.measured (omega arith) inside in
          rw (w.long-is, w.changed-is) (stays_branch c.args.homes.now c.args.base xs c.args.long.now c.loop-i.long i c.loop-i.changed b.test b.left b.right to c.requires.table c.loop-i.invariant is
          (λ short. elim w.else-not-long-i.branch [
            | else-not-long-i-via-then-not-long-i+else-not-is_near v ↦ near.1 v.if-not-is_near.ensures.near
            | else-not-long-i-via-else-not-long-i v ↦ cc
          ])))
      | in_default w ↦ (
          rw (w.long-is, w.changed-is) (stays_other c.args.homes.now c.args.base xs c.args.long.now c.loop-i.long i c.loop-i.changed c.loop-i.invariant (λ t l r to e. w.in_default.not-Branch t l r to (sym (get_or_default xs i (Mark 0) _ c.loop-i-test.true) ∙ e))))
    ]
