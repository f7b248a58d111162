use Rattle.std.proofs.Common.{◌≡◌, ◌++◌, drop}
use Rattle.frames_opt.specs.inside.Sweep as sweep
use Rattle.frames_opt.proofs.sweep.swept.Given as goal

abbrev pub invariant-loop-number : goal.invariant-loop-number
invariant-loop-number l = l.made.items ++ sweep.swept l.states l.number (drop l.number l.code) ≡ sweep.swept l.states 0 l.code
