use Rattle.std.proofs.Common.{◌≡◌, ◌≤◌, ◌-◌, length}
use Rattle.asm.specs.Layout.{place, all_short}
use Rattle.asm.specs.inside.Choice.{MeasuredTo, AllClose}
use Rattle.asm.proofs.layout.measure_close.Given as goal

abbrev pub invariant-loop-low : goal.invariant-loop-low
invariant-loop-low l = record {
  inside : l.low ≤ length l.items;
  at_is : l.at ≡ place all_short l.base l.items l.low;
  before : MeasuredTo l.places l.base l.items l.low;
  closes : AllClose l.homes l.items l.low;
}

abbrev pub decreases-loop-low : goal.decreases-loop-low
decreases-loop-low l = length l.items - l.low
