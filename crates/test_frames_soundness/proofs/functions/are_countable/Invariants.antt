use Rattle.std.proofs.Common.{◌≡◌, ◌+◌, length, map, drop}
use Rattle.frames_code.specs.Code.{function_of}
use Rattle.frames_code.specs.Sound.{places_of}
use Rattle.test_frames_soundness.proofs.functions.are_countable.Given as goal

abbrev pub invariant-loop-function : goal.invariant-loop-function
invariant-loop-function l = l.places + places_of (map function_of (drop l.function-index l.functions)) ≡ length l.functions + places_of (map function_of l.functions)
