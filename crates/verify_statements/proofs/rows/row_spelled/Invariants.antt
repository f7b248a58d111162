use Rattle.std.proofs.Common.{Option, length}
use Rattle.verify_logic.specs.States.{Known}
use Rattle.verify_expressions.specs.Views.{frame_of, state_of}
use Rattle.verify_statements.specs.Rows.{RowSpells}
use Rattle.verify_statements.proofs.rows.row_spelled.Given as goal

abbrev pub decreases-loop-c : goal.decreases-loop-c
decreases-loop-c l = length l.rest

abbrev pub invariant-loop-c : goal.invariant-loop-c
invariant-loop-c l = (o : Option Known) → RowSpells (frame_of l.fn.scope) l.element l.rest l.x l.n l.done (state_of l.current) o → RowSpells (frame_of l.fn.scope) l.element l.fn.text l.x l.n 0 (state_of l.fn.state) o
