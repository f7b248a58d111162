use Rattle.std.proofs.Common.{map}
use Rattle.tac_code.specs.Code.{function_of, program_of}
use Rattle.test_tac_soundness.specs.inside.Parts.{FunctionsFit}
use Rattle.test_tac_soundness.proofs.programs.are_sound_functions.Given as goal

abbrev pub invariant-loop-number : goal.invariant-loop-number
invariant-loop-number l = FunctionsFit (program_of l.program) (map function_of l.functions) l.number
