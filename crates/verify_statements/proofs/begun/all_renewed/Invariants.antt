use Rattle.std.proofs.Common.{Option}
use Rattle.verify_logic.specs.States.{Known}
use Rattle.verify_logic.specs.Statements.{Renews}
use Rattle.verify_expressions.specs.Views.{frame_of, state_of}
use Rattle.verify_statements.proofs.begun.all_renewed.Given as goal

abbrev pub decreases-loop-left : goal.decreases-loop-left
decreases-loop-left l = l.left

abbrev pub invariant-loop-left : goal.invariant-loop-left
invariant-loop-left l = (o : Option Known) → Renews (frame_of l.fn.scope) l.next l.left (state_of l.current) o → Renews (frame_of l.fn.scope) l.fn.first l.fn.count (state_of l.fn.state) o
