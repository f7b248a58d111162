use Rattle.std.proofs.Common.{◌≡◌, vec_len}
use Rattle.pp_cond.specs.inside.Operands.{known_of}
use Rattle.pp_cond.specs.inside.Reading.{waits_of, closed}
use Rattle.pp_cond.proofs.reader.close.Given as goal

abbrev pub invariant-loop-frame : goal.invariant-loop-frame
invariant-loop-frame l = closed l.bound (waits_of l.frames.items) (known_of l.operand) ≡ closed l.bound (waits_of l.initial.frames.items) (known_of l.initial.operand)

abbrev pub decreases-loop-frame : goal.decreases-loop-frame
decreases-loop-frame l = vec_len l.frames
