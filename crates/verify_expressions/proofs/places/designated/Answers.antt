use Rattle.verify_expressions.proofs.Steps.{parameter_named}
use Rattle.verify_expressions.proofs.places.designated.Goals as goal

pub returns-in-Parameter : goal.returns-in-Parameter
returns-in-Parameter c = parameter_named _ _ _ c.parameter.result c.in-Parameter.is c.parameter.ensures
