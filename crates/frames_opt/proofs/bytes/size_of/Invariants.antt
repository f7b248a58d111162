use Rattle.std.proofs.Common.{◌≡◌, take}
use Rattle.std.specs.Prelude.{sum_by}
use Rattle.frames.specs.Costs.{code_bytes}
use Rattle.frames_opt.proofs.bytes.size_of.Given as goal

abbrev pub invariant-loop-instruction : goal.invariant-loop-instruction
invariant-loop-instruction l = l.total ≡ sum_by code_bytes (take l.instruction-index l.code)
