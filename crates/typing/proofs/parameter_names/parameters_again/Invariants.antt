use Rattle.typing.proofs.Names.{Left}
use Rattle.typing.proofs.parameter_names.parameters_again.Given as goal

abbrev pub invariant-loop-parameter : goal.invariant-loop-parameter
invariant-loop-parameter l = Left l.initial.scope l.scope l.parameters l.types l.own l.parameter-index l.place l.references l.numbers
