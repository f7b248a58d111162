use Rattle.std.proofs.Common.{◌≡◌, ◌&&◌, drop}
use Rattle.macros.specs.inside.Faults.{same_all}
use Rattle.macros.proofs.faults.same_tokens.Given as goal

abbrev pub invariant-loop-i : goal.invariant-loop-i
invariant-loop-i l = same_all l.a l.b ≡ l.same && same_all (drop l.i l.a) (drop l.i l.b)
