use Rattle.std.proofs.Common.{◌≡◌, ◌++◌, map, drop, pos}
use Rattle.cabs.proofs.first_objects.literal_cells.Given as goal

abbrev pub invariant-loop-c : goal.invariant-loop-c
invariant-loop-c l = l.cells.items ++ map pos (drop l.c-index l.text) ≡ map pos l.text
