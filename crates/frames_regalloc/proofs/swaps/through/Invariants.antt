use Rattle.std.proofs.Common.{◌≡◌, drop}
use Rattle.frames_regalloc.specs.inside.Pairs as words
use Rattle.frames_regalloc.proofs.swaps.through.Given as goal

abbrev pub invariant-loop-swap : goal.invariant-loop-swap
invariant-loop-swap l = words.through (drop l.swap-index l.swaps) l.number ≡ words.through l.swaps l.word
