use Rattle.frames_code.specs.Code.{function_of}
use Rattle.test_frames_soundness.specs.inside.Parts.{CodeFits}
use Rattle.test_frames_soundness.proofs.functions.has_sound_code.Given as goal

abbrev pub invariant-loop-number : goal.invariant-loop-number
invariant-loop-number l = CodeFits l.count (function_of l.function) l.number
