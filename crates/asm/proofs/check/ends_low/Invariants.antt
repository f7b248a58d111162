use Rattle.std.proofs.Common.{◌≡◌, ◌<◌}
use Rattle.asm.specs.Layout.{place, all_long}
use Rattle.asm.proofs.check.ends_low.Given as goal

abbrev pub invariant-loop-i : goal.invariant-loop-i
invariant-loop-i l = record { at_is : l.at ≡ place all_long l.base l.items l.i; low : l.at < 0x70000000 }
