use Rattle.std.proofs.Common.{List, map, refl}
use Rattle.typed_ast.specs.declared.expressions.Argument.{Argument}
use Rattle.typed_ast.specs.View.{arguments_of, argument_of}
use Rattle.typing_scopes.specs.Scopes.{static_of}
use Rattle.typing_spec.specs.Uses.{uses_in_arguments}
use Rattle.typing_units.specs.inside.Undefined.{uses_in_given}
use Rattle.typing_units.proofs.Firsts.{next_use, arguments_step}
use Rattle.typing_units.proofs.value_uses.+uses_of_values.Goals as goal

pub in_arguments-loop-argument-preserved : goal.in_arguments-loop-argument-preserved
in_arguments-loop-argument-preserved t c = next_use (map static_of c.args.statics.now) (λ (xs : List Argument). uses_in_arguments (arguments_of (map argument_of xs))) (λ (x : Argument). uses_in_given (argument_of x)) refl
    (λ x xs. arguments_step (argument_of x) (arguments_of (map argument_of xs))) c.args.arguments.now c.loop-argument.argument-index c.argument-item.result c.loop-argument-test.true _ _ _ c.loop-argument.invariant
    c.argument-item.is c.in_argument.ensures (c.earlier-found.ensures (map static_of c.args.statics.now))
