use Rattle.typed_ast.specs.View.{program_of}
use Rattle.verify.specs.Says.{IsSoundWork}
use Rattle.verify.proofs.verdict.analysed.Given as goal

abbrev pub invariant-loop-turn : goal.invariant-loop-turn
invariant-loop-turn l = IsSoundWork (program_of l.program) l.work
