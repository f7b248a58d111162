use Rattle.std.proofs.Common.{List, map, refl}
use Rattle.typed_ast.specs.declared.expressions.Argument.{Argument}
use Rattle.typed_ast.specs.View.{arguments_of, argument_of}
use Rattle.lower_correct.specs.Values as values
use Rattle.lower_exprs.specs.inside.Given.{given_writes}
use Rattle.lower_exprs.proofs.Lists.{next_some, writes_step}
use Rattle.lower_exprs.proofs.rests.+writes.Goals as goal

pub arguments_write-loop-argument-preserved : goal.arguments_write-loop-argument-preserved
arguments_write-loop-argument-preserved t c = next_some (λ (xs : List Argument). values.arguments_write (arguments_of (map argument_of xs)) c.args.object) (λ (x : Argument). given_writes (argument_of x) c.args.object) refl
    (λ x xs. writes_step (argument_of x) (arguments_of (map argument_of xs)) c.args.object) c.args.arguments.now c.loop-argument.argument-index c.argument-item.result c.loop-argument-test.true _ _ _ c.loop-argument.invariant
    c.argument-item.is c.argument_writes.ensures c.either-some.ensures
