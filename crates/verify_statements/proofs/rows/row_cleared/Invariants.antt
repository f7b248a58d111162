use Rattle.std.proofs.Common.{Option}
use Rattle.verify_logic.specs.States.{Known}
use Rattle.verify_expressions.specs.Views.{frame_of, state_of}
use Rattle.verify_statements.specs.Rows.{RowClears}
use Rattle.verify_statements.proofs.rows.row_cleared.Given as goal

abbrev pub invariant-loop-index : goal.invariant-loop-index
invariant-loop-index l = (o : Option Known) → RowClears (frame_of l.fn.scope) l.x l.n l.index (state_of l.current) o → RowClears (frame_of l.fn.scope) l.x l.n l.fn.from (state_of l.fn.state) o
