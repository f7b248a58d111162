use Rattle.tac_code.specs.Code.{function_of}
use Rattle.test_tac_soundness.specs.inside.Parts.{AreScalars}
use Rattle.test_tac_soundness.proofs.functions.are_scalars.Given as goal

abbrev pub invariant-loop-number : goal.invariant-loop-number
invariant-loop-number l = AreScalars (function_of l.function) l.number
