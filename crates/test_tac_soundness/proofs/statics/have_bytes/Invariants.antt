use Rattle.std.proofs.Common.{map}
use Rattle.test_tac_soundness.specs.inside.Parts.{LiteralsFit}
use Rattle.test_tac_soundness.proofs.statics.have_bytes.Given as goal

abbrev pub invariant-loop-number : goal.invariant-loop-number
invariant-loop-number l = LiteralsFit (map (λ text. text.items) l.literals) l.number
