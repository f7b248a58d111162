use Rattle.std.proofs.Common.{take}
use Rattle.pp_cond.specs.layer.HasRead.{HasRead}
use Rattle.pp_cond.proofs.condition.truth.Given as goal

abbrev pub invariant-loop-token : goal.invariant-loop-token
invariant-loop-token l = HasRead l.reader (take l.token-index l.tokens)
