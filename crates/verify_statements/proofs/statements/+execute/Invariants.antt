use Rattle.std.proofs.Common.{◌+◌, ◌≤◌, map, length}
use Rattle.std.specs.Prelude.{Some, None}
use Rattle.typed_ast.specs.View.{option_value, statement_of, statements_of, value_of}
use Rattle.verify_logic.specs.Statements.{Ways, Continues, Enters}
use Rattle.verify_expressions.specs.Views.{frame_of, state_of}
use Rattle.verify_statements.specs.Loops.{Unrolls}
use Rattle.verify_statements.specs.Ways.{ways_of}
use Rattle.verify_statements.proofs.Work.{work, work_all}
use Rattle.verify_statements.proofs.statements.+execute.Given as goal

abbrev pub decreases-statement : goal.decreases-statement
decreases-statement l = work (statement_of l.a.now) + 1

abbrev pub decreases-by_kind : goal.decreases-by_kind
decreases-by_kind l = work (statement_of l.a.now)

abbrev pub decreases-followed : goal.decreases-followed
decreases-followed l = work (statement_of l.a.now) + 2

abbrev pub decreases-block : goal.decreases-block
decreases-block l = work_all (statements_of (map statement_of l.all.now)) + 2

abbrev pub decreases-statements : goal.decreases-statements
decreases-statements l = work_all (statements_of (map statement_of l.all.now)) + 1

abbrev pub decreases-branch : goal.decreases-branch
decreases-branch l = work (statement_of l.a.now) + 2

abbrev pub decreases-branches : goal.decreases-branches
decreases-branches l = work (statement_of l.a.now) + work (statement_of l.b.now) + 2

abbrev pub decreases-body : goal.decreases-body
decreases-body l = work (statement_of l.a.now) + 2

abbrev pub decreases-turned : goal.decreases-turned
decreases-turned l = work (statement_of l.turning.now.body.now) + 3

abbrev pub decreases-narrowed : goal.decreases-narrowed
decreases-narrowed l = work (statement_of l.turning.now.body.now) + 4

abbrev pub decreases-guessed : goal.decreases-guessed
decreases-guessed l = work (statement_of l.turning.now.body.now) + 5

abbrev pub decreases-checked : goal.decreases-checked
decreases-checked l = work (statement_of l.a.now) + 3

abbrev pub decreases-looped_again : goal.decreases-looped_again
decreases-looped_again l = work (statement_of l.a.now) + 4

abbrev pub decreases-looped_anew : goal.decreases-looped_anew
decreases-looped_anew l = work (statement_of l.a.now) + 6

abbrev pub decreases-looped : goal.decreases-looped
decreases-looped l = work (statement_of l.a.now) + 7

abbrev pub decreases-checked_for : goal.decreases-checked_for
decreases-checked_for l = work (statement_of l.a.now) + 3

abbrev pub decreases-looped_for_again : goal.decreases-looped_for_again
decreases-looped_for_again l = work (statement_of l.a.now) + 4

abbrev pub decreases-looped_for_anew : goal.decreases-looped_for_anew
decreases-looped_for_anew l = work (statement_of l.a.now) + 6

abbrev pub decreases-looped_for : goal.decreases-looped_for
decreases-looped_for l = work (statement_of l.a.now) + 7

abbrev pub decreases-unrolled_turn : goal.decreases-unrolled_turn
decreases-unrolled_turn l = work (statement_of l.a.now) + 3

abbrev pub decreases-unrolled : goal.decreases-unrolled
decreases-unrolled l = work (statement_of l.a.now) + 4

abbrev pub decreases-looped_on : goal.decreases-looped_on
decreases-looped_on l = work (statement_of l.a.now) + 8

abbrev pub decreases-unrolled_for_turn : goal.decreases-unrolled_for_turn
decreases-unrolled_for_turn l = work (statement_of l.a.now) + 3

abbrev pub decreases-unrolled_for : goal.decreases-unrolled_for
decreases-unrolled_for l = work (statement_of l.a.now) + 4

abbrev pub decreases-looped_for_on : goal.decreases-looped_for_on
decreases-looped_for_on l = work (statement_of l.a.now) + 8

abbrev pub decreases-while_loop : goal.decreases-while_loop
decreases-while_loop l = work (statement_of l.a.now) + 9

abbrev pub decreases-do_loop : goal.decreases-do_loop
decreases-do_loop l = work (statement_of l.a.now) + 9

abbrev pub decreases-for_loop : goal.decreases-for_loop
decreases-for_loop l = work_all (statements_of (map statement_of l.declared.now)) + work (statement_of l.a.now) + 10

abbrev pub decreases-labelled : goal.decreases-labelled
decreases-labelled l = work (statement_of l.a.now) + 3

abbrev pub decreases-entered : goal.decreases-entered
decreases-entered l = work (statement_of l.a.now) + 4

abbrev pub decreases-cases : goal.decreases-cases
decreases-cases l = work_all (statements_of (map statement_of l.all.now)) + 2

abbrev pub decreases-switched : goal.decreases-switched
decreases-switched l = work_all (statements_of (map statement_of l.all.now)) + 3

abbrev pub decreases-cases-loop-a : goal.decreases-cases-loop-a
decreases-cases-loop-a l = length l.rest

abbrev pub invariant-cases-loop-a : goal.invariant-cases-loop-a
invariant-cases-loop-a l = record {
  below : work_all (statements_of (map statement_of l.rest)) ≤ work_all (statements_of (map statement_of l.all));
  leads : (out : Ways) → Enters (frame_of l.scope) (state_of l.entry) (ways_of l.so_far) (statements_of (map statement_of l.rest)) out → Enters (frame_of l.scope) (state_of l.entry) (ways_of l.initial.so_far) (statements_of (map statement_of l.all)) out;
}

abbrev pub decreases-statements-loop-a : goal.decreases-statements-loop-a
decreases-statements-loop-a l = length l.rest

abbrev pub invariant-statements-loop-a : goal.invariant-statements-loop-a
invariant-statements-loop-a l = record {
  below : work_all (statements_of (map statement_of l.rest)) ≤ work_all (statements_of (map statement_of l.all));
  leads : (out : Ways) → Continues (frame_of l.scope) (ways_of l.so_far) (statements_of (map statement_of l.rest)) out → Continues (frame_of l.scope) (ways_of l.initial.so_far) (statements_of (map statement_of l.all)) out;
}

abbrev pub invariant-unrolled-loop-turn : goal.invariant-unrolled-loop-turn
invariant-unrolled-loop-turn l = record {
  leads : (out : Ways) → Unrolls (frame_of l.scope) (Some (value_of l.e)) None (statement_of l.a) (ways_of l.so_far) out → Unrolls (frame_of l.scope) (Some (value_of l.e)) None (statement_of l.a) (ways_of l.initial.so_far) out;
}

abbrev pub invariant-unrolled_for-loop-turn : goal.invariant-unrolled_for-loop-turn
invariant-unrolled_for-loop-turn l = record {
  leads : (out : Ways) → Unrolls (frame_of l.scope) (option_value l.control.test) (option_value l.control.step) (statement_of l.a) (ways_of l.so_far) out → Unrolls (frame_of l.scope) (option_value l.control.test) (option_value l.control.step) (statement_of l.a) (ways_of l.initial.so_far) out;
}
