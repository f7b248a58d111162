use Rattle.std.proofs.Common.{◌≡◌, ◌++◌, drop, map}
use Rattle.frames_regalloc.specs.Renumbered as words
use Rattle.frames_regalloc.specs.inside.Pairs as swaps_in
use Rattle.frames_regalloc.proofs.functions.put_code.Given as goal

abbrev pub invariant-loop-instruction : goal.invariant-loop-instruction
invariant-loop-instruction l =
    l.code.items ++ map (words.renumbered (swaps_in.through l.swaps)) (drop l.instruction-index l.instructions) ≡ l.initial.code.items ++ map (words.renumbered (swaps_in.through l.swaps)) l.instructions
