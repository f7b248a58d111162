use Rattle.std.proofs.Common.{◌≡◌, ◌+◌, ◌≤◌, drop}
use Rattle.asm.specs.Layout.{longest}
use Rattle.select.proofs.near.are_near.Given as goal

abbrev pub invariant-loop-item : goal.invariant-loop-item
invariant-loop-item l = record {
  sum : l.bytes + longest (drop l.item-index l.items) ≡ longest l.items;
  reaches : l.bytes ≤ 1048574;
}
