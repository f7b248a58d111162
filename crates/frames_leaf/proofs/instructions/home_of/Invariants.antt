use Rattle.std.proofs.Common.{◌≡◌, ◌+◌, drop}
use Rattle.frames_leaf.specs.layer.Moving as moving
use Rattle.frames_leaf.proofs.instructions.home_of.Given as goal

abbrev pub invariant-loop-number : goal.invariant-loop-number
invariant-loop-number l = moving.home_of (l.first + l.number) (drop l.number l.words) l.word ≡ moving.home_of l.first l.words l.word
