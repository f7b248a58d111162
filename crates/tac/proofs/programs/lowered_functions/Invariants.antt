use Rattle.std.proofs.Common.{◌≡◌, map}
use Rattle.typed_ast.specs.View as view
use Rattle.tac_code.specs.Code as three_address
use Rattle.tac.specs.inside.Functions.{AreFunctionsOf}
use Rattle.tac.proofs.programs.lowered_functions.Given as goal

abbrev pub invariant-loop-function : goal.invariant-loop-function
invariant-loop-function l = record {
  at : l.number ≡ l.function-index;
  all : AreFunctionsOf (view.program_of l.program) l.function-index (map three_address.function_of l.list.items);
}
