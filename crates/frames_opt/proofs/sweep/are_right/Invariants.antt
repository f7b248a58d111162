use Rattle.std.proofs.Common.{◌≡◌, drop}
use Rattle.frames_opt.specs.inside.Sweep as sweep
use Rattle.frames_opt.proofs.sweep.are_right.Given as goal

abbrev pub invariant-loop-number : goal.invariant-loop-number
invariant-loop-number l = sweep.are_right l.room l.states l.list l.number (drop l.number l.code) ≡ sweep.are_right l.room l.states l.list 0 l.code
