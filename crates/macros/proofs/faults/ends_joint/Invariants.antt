use Rattle.std.proofs.Common.{◌≡◌, drop, false}
use Rattle.macros.specs.inside.Faults.{ends_joint}
use Rattle.macros.proofs.faults.ends_joint.Given as goal

abbrev pub invariant-loop-x : goal.invariant-loop-x
invariant-loop-x l = ends_joint false l.body ≡ ends_joint l.last (drop l.x-index l.body)
