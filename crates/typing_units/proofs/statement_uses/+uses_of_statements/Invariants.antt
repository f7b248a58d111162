use Rattle.std.proofs.Common.{◌≡◌, map, take}
use Rattle.typed_ast.specs.View.{statements_of, statement_of}
use Rattle.typing_scopes.specs.Scopes.{static_of}
use Rattle.typing_spec.specs.Uses.{uses_in_statements}
use Rattle.typing_units.specs.inside.Undefined.{undefined_in}
use Rattle.typing_units.proofs.statement_uses.+uses_of_statements.Given as goal

abbrev pub invariant-in_statements-loop-statement : goal.invariant-in_statements-loop-statement
invariant-in_statements-loop-statement l = l.found ≡ undefined_in (map static_of l.statics) (uses_in_statements (statements_of (map statement_of (take l.statement-index l.statements))))
