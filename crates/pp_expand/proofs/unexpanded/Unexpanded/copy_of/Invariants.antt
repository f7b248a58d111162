use Rattle.std.proofs.Common.{◌≡◌, take}
use Rattle.pp_expand.proofs.unexpanded.Unexpanded.copy_of.Given as goal

abbrev pub invariant-loop-token : goal.invariant-loop-token
invariant-loop-token l = l.copy ≡ take l.token-index l.list
