use Rattle.std.proofs.Common.{◌≡◌, ◌+◌}
use Rattle.asm.specs.Layout.{place}
use Rattle.asm.specs.inside.Choice.{longs, Counted}
use Rattle.asm.proofs.layout.count.Given as goal

abbrev pub invariant-loop-i : goal.invariant-loop-i
invariant-loop-i l = record {
  at_is : l.at + place (longs l.long) l.base l.items l.low ≡ place (longs l.long) l.base l.items l.i;
  counted : Counted l.places (longs l.long) l.base l.items l.low l.i;
}
