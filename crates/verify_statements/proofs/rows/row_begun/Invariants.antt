use Rattle.std.proofs.Common.{Option, map, length}
use Rattle.typed_ast.specs.View.{initialiser_of, initialisers_of}
use Rattle.verify_logic.specs.States.{Known}
use Rattle.verify_expressions.specs.Views.{frame_of, state_of}
use Rattle.verify_statements.specs.Rows.{RowBegins}
use Rattle.verify_statements.proofs.rows.row_begun.Given as goal

abbrev pub decreases-loop-i : goal.decreases-loop-i
decreases-loop-i l = length l.rest

abbrev pub invariant-loop-i : goal.invariant-loop-i
invariant-loop-i l = (o : Option Known) → RowBegins (frame_of l.fn.scope) (initialisers_of (map initialiser_of l.rest)) l.x l.n l.done (state_of l.current) o → RowBegins (frame_of l.fn.scope) (initialisers_of (map initialiser_of l.fn.all)) l.x l.n 0 (state_of l.fn.state) o
