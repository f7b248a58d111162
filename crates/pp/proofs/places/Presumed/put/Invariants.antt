use Rattle.std.proofs.Common.{◌≡◌, ◌++◌, take}
use Rattle.pp.specs.Held.{presumed_of}
use Rattle.pp.specs.inside.Stepping.{placed}
use Rattle.pp.proofs.places.Presumed.put.Given as goal

abbrev pub invariant-loop-token : goal.invariant-loop-token
invariant-loop-token l = l.tokens.items ≡ l.initial.tokens.items ++ placed (presumed_of l.initial.self) (take l.token-index l.line)
