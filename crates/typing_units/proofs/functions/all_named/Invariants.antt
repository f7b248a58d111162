use Rattle.std.proofs.Common.{drop, map}
use Rattle.tree.specs.View.{parameter_of}
use Rattle.typing_units.proofs.Readings.{Naming}
use Rattle.typing_units.proofs.functions.all_named.Given as goal

abbrev pub invariant-loop-parameter : goal.invariant-loop-parameter
invariant-loop-parameter l = Naming (map parameter_of l.parameters) (map parameter_of (drop l.parameter-index l.parameters))
