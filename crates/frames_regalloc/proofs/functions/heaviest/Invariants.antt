use Rattle.std.proofs.Common.{◌<◌, length}
use Rattle.frames_regalloc.proofs.functions.heaviest.Given as goal

abbrev pub invariant-loop-number : goal.invariant-loop-number
invariant-loop-number l = l.best < length l.weights
