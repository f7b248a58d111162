use Rattle.std.proofs.Common.{take}
use Rattle.cc.specs.Transfer.{PutsAll}
use Rattle.cc.proofs.transfer.put_all.Given as goal

abbrev pub invariant-loop-byte : goal.invariant-loop-byte
invariant-loop-byte g l = PutsAll (g.P.Port.seen l.initial.port) (g.P.Port.seen l.port) (take l.byte-index l.bytes)
