use Rattle.std.proofs.Common.{◌≡◌, ◌+◌, length, map, drop}
use Rattle.tac_code.specs.Code.{function_of}
use Rattle.test_tac_soundness.specs.inside.Parts.{places_of}
use Rattle.test_tac_soundness.proofs.programs.are_countable.Given as goal

abbrev pub invariant-loop-function : goal.invariant-loop-function
invariant-loop-function l = l.places + places_of (map function_of (drop l.function-index l.functions)) ≡ length l.functions + places_of (map function_of l.functions)
