use Rattle.std.proofs.Common.{◌≡◌, ◌++◌, take}
use Rattle.pp.specs.Held.{presumed_of}
use Rattle.pp.specs.inside.Stepping.{placed}
use Rattle.pp.proofs.run.gather.Given as goal

abbrev pub invariant-loop-token : goal.invariant-loop-token
invariant-loop-token l = l.tokens ≡ l.initial.tokens ++ placed (presumed_of l.presumed) (take l.token-index l.line)
