use Rattle.std.proofs.Common.{◌+◌, ◌≤◌, length}
use Rattle.pp_expand.proofs.Gather.{Held, HeldIn}
use Rattle.pp_expand.proofs.arguments.gather_arguments.Given as goal

abbrev pub invariant-loop-token : goal.invariant-loop-token
invariant-loop-token l = record {
  same : Held l.variadic l.named l.initial.rest.items l.before.items l.now.items l.depth l.rest.items;
  known : HeldIn l.initial.rest.items l.before.items l.now.items l.rest.items;
  bound : l.depth + length l.rest.items ≤ length l.initial.rest.items;
}

abbrev pub decreases-loop-token : goal.decreases-loop-token
decreases-loop-token l = length l.rest.items
