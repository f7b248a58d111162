use Rattle.std.proofs.Common.{◌≡◌, ℕ, ◌<◌, get_or}
use Rattle.asm.specs.Layout.{place}
use Rattle.asm.specs.inside.Choice.{longs}
use Rattle.asm.proofs.layout.measure.Given as goal

abbrev pub invariant-loop-i : goal.invariant-loop-i
invariant-loop-i l = record {
  at_is : l.at ≡ place (longs l.long) l.base l.items l.i;
  before : (k : ℕ) → k < l.i → get_or l.places k 0 ≡ place (longs l.long) l.base l.items k;
}
