use Rattle.std.proofs.Common.{◌≡◌, ◌++◌, drop, map}
use Rattle.tree.specs.View.{external_of}
use Rattle.typing_spec.specs.Units.{definitions_in}
use Rattle.typing_units.proofs.definitions.definitions_in.Given as goal

abbrev pub invariant-loop-external : goal.invariant-loop-external
invariant-loop-external l = l.names.items ++ definitions_in (map external_of (drop l.external-index l.externals)) ≡ definitions_in (map external_of l.externals)
