use Rattle.std.proofs.Common.{◌≡◌, ◌++◌, map, drop}
use Rattle.typed_ast.specs.View.{parameter_type_of}
use Rattle.tac_code.specs.Lowered.{kind_of}
use Rattle.tac.proofs.functions.kinds.Given as goal

abbrev pub invariant-loop-parameter : goal.invariant-loop-parameter
invariant-loop-parameter l =
    l.list.items ++ map kind_of (map parameter_type_of (drop l.parameter-index l.parameters)) ≡ map kind_of (map parameter_type_of l.parameters)
