use Rattle.std.proofs.Common.{◌≡◌, drop}
use Rattle.std.specs.List.{list_all}
use Rattle.frames_leaf.specs.layer.Moving as moving
use Rattle.frames_leaf.proofs.instructions.are_leaf.Given as goal

abbrev pub invariant-loop-instruction : goal.invariant-loop-instruction
invariant-loop-instruction l = list_all (moving.is_leaf l.first) (drop l.instruction-index l.code) ≡ list_all (moving.is_leaf l.first) l.code
