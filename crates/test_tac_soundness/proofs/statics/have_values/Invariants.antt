use Rattle.std.proofs.Common.{map}
use Rattle.typed_ast.specs.View.{static_of}
use Rattle.test_tac_soundness.specs.inside.Parts.{ValuesFit}
use Rattle.test_tac_soundness.proofs.statics.have_values.Given as goal

abbrev pub invariant-loop-number : goal.invariant-loop-number
invariant-loop-number l = ValuesFit (map static_of l.statics) l.number
