use Rattle.std.proofs.Common.{◌≡◌, map, take}
use Rattle.typed_ast.specs.View.{arguments_of, argument_of}
use Rattle.typing_scopes.specs.Scopes.{static_of}
use Rattle.typing_spec.specs.Uses.{uses_in_arguments}
use Rattle.typing_units.specs.inside.Undefined.{undefined_in}
use Rattle.typing_units.proofs.value_uses.+uses_of_values.Given as goal

abbrev pub invariant-in_arguments-loop-argument : goal.invariant-in_arguments-loop-argument
invariant-in_arguments-loop-argument l = l.found ≡ undefined_in (map static_of l.statics) (uses_in_arguments (arguments_of (map argument_of (take l.argument-index l.arguments))))
