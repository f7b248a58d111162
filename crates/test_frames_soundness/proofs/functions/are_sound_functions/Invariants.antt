use Rattle.std.proofs.Common.{map}
use Rattle.frames_code.specs.Code.{function_of}
use Rattle.test_frames_soundness.specs.inside.Parts.{FunctionsFit}
use Rattle.test_frames_soundness.proofs.functions.are_sound_functions.Given as goal

abbrev pub invariant-loop-number : goal.invariant-loop-number
invariant-loop-number l = FunctionsFit l.count (map function_of l.functions) l.number
