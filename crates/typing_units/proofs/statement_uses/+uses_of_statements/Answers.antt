use Rattle.std.proofs.Common.{List, map, refl}
use Rattle.typed_ast.specs.declared.statements.Statement.{Statement}
use Rattle.typed_ast.specs.View.{statements_of, statement_of}
use Rattle.typing_scopes.specs.Scopes.{static_of}
use Rattle.typing_spec.specs.Uses.{uses_in_statements, uses_in_statement}
use Rattle.typing_units.proofs.Firsts.{next_use}
use Rattle.typing_units.proofs.statement_uses.+uses_of_statements.Goals as goal

pub in_statements-loop-statement-preserved : goal.in_statements-loop-statement-preserved
in_statements-loop-statement-preserved t c = next_use (map static_of c.args.statics.now) (λ (xs : List Statement). uses_in_statements (statements_of (map statement_of xs))) (λ (x : Statement). uses_in_statement (statement_of x)) refl
    (λ _ _. refl) c.args.statements.now c.loop-statement.statement-index c.statement-item.result c.loop-statement-test.true _ _ _ c.loop-statement.invariant
    c.statement-item.is c.in_statement.ensures (c.earlier-found.ensures (map static_of c.args.statics.now))
