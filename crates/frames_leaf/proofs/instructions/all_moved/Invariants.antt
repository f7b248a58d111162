use Rattle.std.proofs.Common.{◌≡◌, ◌++◌, drop, map}
use Rattle.frames_leaf.specs.layer.Moving as moving
use Rattle.frames_leaf.proofs.instructions.all_moved.Given as goal

abbrev pub invariant-loop-instruction : goal.invariant-loop-instruction
invariant-loop-instruction l = l.made.items ++ map (moving.moved l.first l.words) (drop l.instruction-index l.code) ≡ map (moving.moved l.first l.words) l.code
