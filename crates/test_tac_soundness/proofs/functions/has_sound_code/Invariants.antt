use Rattle.tac_code.specs.Code.{function_of, program_of}
use Rattle.test_tac_soundness.specs.inside.Parts.{CodeFits}
use Rattle.test_tac_soundness.proofs.functions.has_sound_code.Given as goal

abbrev pub invariant-loop-number : goal.invariant-loop-number
invariant-loop-number l = CodeFits (program_of l.program) (function_of l.function) l.number
