use Rattle.std.proofs.Common.{◌≡◌, take}
use Rattle.pp_expand.proofs.waiting.copies.Given as goal

abbrev pub invariant-loop-x : goal.invariant-loop-x
invariant-loop-x l = l.copy.items ≡ take l.x-index l.list
