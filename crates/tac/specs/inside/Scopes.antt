-- The program and the function that code is written for.
use Rattle.typing_spec.specs.Program as typed
use Rattle.typed_ast.specs.View.{program_of, function_of}
use Rattle.lower_ops.specs.declared.scopes.Scope.{Scope}

abbrev pub program_in : Scope → typed.Program
program_in s = program_of s.program.now

abbrev pub function_in : Scope → typed.Function
function_in s = function_of s.function.now
