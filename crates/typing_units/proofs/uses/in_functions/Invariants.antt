use Rattle.std.proofs.Common.{◌≡◌, map, take}
use Rattle.typed_ast.specs.View.{function_of}
use Rattle.typing_scopes.specs.Scopes.{static_of}
use Rattle.typing_spec.specs.Uses.{uses_in_functions}
use Rattle.typing_units.specs.inside.Undefined.{undefined_in}
use Rattle.typing_units.proofs.uses.in_functions.Given as goal

abbrev pub invariant-loop-function : goal.invariant-loop-function
invariant-loop-function l = l.found ≡ undefined_in (map static_of l.statics) (uses_in_functions (map function_of (take l.function-index l.functions)))
