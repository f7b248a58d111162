use Rattle.std.proofs.Common.{◌+◌, ◌≤◌, map, length}
use Rattle.typed_ast.specs.View.{initialiser_of, initialisers_of}
use Rattle.verify_logic.specs.declared.abstract_values.Interval.{Interval}
use Rattle.verify_expressions.specs.Views.{frame_of, state_of}
use Rattle.verify_statements.specs.Fills.{FillsAll}
use Rattle.verify_statements.proofs.Work.{work_initialiser, work_initialisers}
use Rattle.verify_statements.proofs.initialisers.+fill.Given as goal

abbrev pub decreases-filled : goal.decreases-filled
decreases-filled l = work_initialiser (initialiser_of l.i.now)

abbrev pub decreases-braces_filled : goal.decreases-braces_filled
decreases-braces_filled l = work_initialiser (initialiser_of l.i.now) + 1

abbrev pub decreases-list_filled : goal.decreases-list_filled
decreases-list_filled l = work_initialisers (initialisers_of (map initialiser_of l.all.now)) + 3

abbrev pub decreases-rows_filled : goal.decreases-rows_filled
decreases-rows_filled l = work_initialisers (initialisers_of (map initialiser_of l.all.now)) + 2

abbrev pub decreases-rows_filled-loop-i : goal.decreases-rows_filled-loop-i
decreases-rows_filled-loop-i l = length l.rest

abbrev pub invariant-rows_filled-loop-i : goal.invariant-rows_filled-loop-i
invariant-rows_filled-loop-i l = record {
  below : work_initialisers (initialisers_of (map initialiser_of l.rest)) ≤ work_initialisers (initialisers_of (map initialiser_of l.all));
  leads : (j : Interval) → FillsAll (frame_of l.scope) (initialisers_of (map initialiser_of l.rest)) l.filling.element l.filling.object l.n l.done l.inner (state_of l.filling.state.now) l.so_far j →
      FillsAll (frame_of l.scope) (initialisers_of (map initialiser_of l.all)) l.filling.element l.filling.object l.n 0 l.inner (state_of l.filling.state.now) l.initial.so_far j;
}
