use Rattle.std.proofs.Common.{List, map, refl}
use Rattle.typed_ast.specs.declared.units.Function.{Function}
use Rattle.typed_ast.specs.View.{function_of, statement_of}
use Rattle.typing_scopes.specs.Scopes.{static_of}
use Rattle.typing_spec.specs.Uses.{uses_in_functions, uses_in_statement}
use Rattle.typing_units.proofs.Firsts.{next_use}
use Rattle.typing_units.proofs.uses.in_functions.Goals as goal

pub loop-function-preserved : goal.loop-function-preserved
loop-function-preserved c = next_use (map static_of c.args.statics.now) (λ (xs : List Function). uses_in_functions (map function_of xs)) (λ (x : Function). uses_in_statement (statement_of x.body)) refl (λ _ _. refl)
    c.args.functions.now c.loop-function.function-index c.function-item.result c.loop-function-test.true _ _ _ c.loop-function.invariant c.function-item.is c.in_statement.ensures (c.earlier-found.ensures (map static_of c.args.statics.now))
