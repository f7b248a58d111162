use Rattle.std.proofs.Common.{◌≡◌, ◌++◌, drop}
use Rattle.frames_layout.specs.layer.Plans as plans
use Rattle.frames_layout.proofs.functions.all_made.Given as goal

abbrev pub invariant-loop-number : goal.invariant-loop-number
invariant-loop-number l = l.list.items ++ plans.all_made l.code (drop l.number l.plan) ≡ plans.all_made l.code l.plan
