use Rattle.std.proofs.Common.{◌≡◌, map, take}
use Rattle.typed_ast.specs.View.{function_of}
use Rattle.lower_correct.specs.Bodies as relation
use Rattle.tac.specs.layer.Functions.{parameters_at, temporaries_with}
use Rattle.tac.proofs.counts.most_temporaries.Given as goal

abbrev pub invariant-loop-instruction : goal.invariant-loop-instruction
invariant-loop-instruction l = l.most ≡ relation.most (temporaries_with (parameters_at (map function_of l.functions))) (take l.instruction-index l.code)
