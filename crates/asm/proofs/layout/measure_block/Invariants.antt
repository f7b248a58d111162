use Rattle.std.proofs.Common.{◌≡◌}
use Rattle.asm.specs.Layout.{place, all_short}
use Rattle.asm.specs.inside.Choice.{MeasuredTo}
use Rattle.asm.proofs.layout.measure_block.Given as goal

abbrev pub invariant-loop-i : goal.invariant-loop-i
invariant-loop-i l = record {
  at_is : l.at ≡ place all_short l.base l.items l.i;
  before : MeasuredTo l.places l.base l.items l.i;
}
