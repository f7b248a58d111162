use Rattle.std.proofs.Common.{◌≡◌, map}
use Rattle.typed_ast.specs.View.{program_of}
use Rattle.frames_code.specs.Code as flat
use Rattle.frames.specs.layer.Alone.{starts_in}
use Rattle.cc_backend.specs.inside.FlatFunctions.{AreFlatFunctionsOf}
use Rattle.cc_backend.proofs.flat_code.flat_functions.Given as goal

abbrev pub invariant-loop-function : goal.invariant-loop-function
invariant-loop-function l = record {
  at : l.number ≡ l.function-index;
  all : AreFlatFunctionsOf (program_of l.program) (starts_in l.starts) l.function-index (map flat.function_of l.list.items);
}
