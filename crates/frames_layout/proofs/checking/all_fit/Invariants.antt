use Rattle.std.proofs.Common.{◌≡◌, drop}
use Rattle.frames_layout.specs.layer.Plans as plans
use Rattle.frames_layout.proofs.checking.all_fit.Given as goal

abbrev pub invariant-loop-number : goal.invariant-loop-number
invariant-loop-number l = plans.all_fit l.code l.plan l.number (drop l.number l.plan) ≡ plans.all_fit l.code l.plan 0 l.plan
