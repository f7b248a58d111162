use Rattle.std.proofs.Common.{◌≡◌, ◌≤◌, ◌+◌, ◌-◌, ◌*◌, ◌++◌}
use Rattle.arrayvec.specs.ArrayVec.{array_vec_len}
use Rattle.loader.specs.File as file
use Rattle.loader.proofs.header.loads_from.Given as goal

abbrev pub invariant-loop-k : goal.invariant-loop-k
invariant-loop-k l = record {
  few : array_vec_len l.loads ≤ l.k;
  items : l.loads.items ++ file.loads_from l.bytes (l.at + 32 * l.k) (l.count - l.k) ≡ file.loads_from l.bytes l.at l.count;
}
