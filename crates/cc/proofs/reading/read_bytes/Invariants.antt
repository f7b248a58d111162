use Rattle.std.proofs.Common.{◌-◌, ◌+◌, ◌≤◌, suc, length}
use Rattle.srcset.specs.Files.{max_file_bytes}
use Rattle.cc.specs.Sources.{GetsBytes}
use Rattle.cc.proofs.reading.read_bytes.Given as goal

abbrev pub invariant-loop-port : goal.invariant-loop-port
invariant-loop-port g l = record {
  gets : GetsBytes (g.P.Port.seen l.initial.port) (g.P.Port.seen l.port) l.bytes.items;
  few : length l.bytes.items ≤ suc max_file_bytes;
}

abbrev pub decreases-loop-port : goal.decreases-loop-port
decreases-loop-port g l = suc max_file_bytes - length l.bytes.items
