use Rattle.std.proofs.Common.{◌≡◌, drop}
use Rattle.frames_opt.specs.inside.Passes as passes
use Rattle.frames_opt.proofs.marks.mark_all.Given as goal

abbrev pub invariant-loop-instruction : goal.invariant-loop-instruction
invariant-loop-instruction l = passes.all_marked l.marks (drop l.instruction-index l.code) ≡ passes.all_marked l.initial.marks l.code
