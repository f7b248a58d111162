use Rattle.std.proofs.Common.{◌≡◌, ◌≤◌, length}
use Rattle.frames_regalloc.specs.inside.Pairs.{AreInside}
use Rattle.frames_regalloc.proofs.functions.choose.Given as goal

abbrev pub invariant-loop-first : goal.invariant-loop-first
invariant-loop-first l = record {
  weights : length l.weights.items ≡ l.function.cells;
  inside : AreInside l.function.cells l.swaps.items;
  few : length l.swaps.items ≤ l.first;
}
