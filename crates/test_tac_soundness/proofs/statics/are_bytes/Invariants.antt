use Rattle.test_tac_soundness.specs.inside.Parts.{BytesFit}
use Rattle.test_tac_soundness.proofs.statics.are_bytes.Given as goal

abbrev pub invariant-loop-number : goal.invariant-loop-number
invariant-loop-number l = BytesFit l.text l.number
