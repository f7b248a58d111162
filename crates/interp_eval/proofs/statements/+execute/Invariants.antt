use Rattle.std.proofs.Common.{◌≡◌, ◌+◌, ◌-◌, ◌≤◌, map, length, option_map}
use Rattle.std.specs.Prelude.{true}
use Rattle.typed_ast.specs.View.{statement_of, statements_of, value_of, program_of}
use Rattle.csem.specs.Machine.{State, Run}
use Rattle.csem.specs.Statements.{Flow}
use Rattle.interp_store.specs.layer.Frames.{Found}
use Rattle.interp_store.specs.layer.Presents.{call_in, loop}
use Rattle.interp_eval.specs.layer.Comes.{Course, Leads, Spends, all_executed, objects_in}
use Rattle.interp_eval.specs.layer.Quick.{quick_all}
use Rattle.interp_eval.proofs.Work.{work_statement, work_all}
use Rattle.interp_eval.proofs.statements.+execute.Given as goal

abbrev pub decreases-statement : goal.decreases-statement
decreases-statement l = work_statement (statement_of l.a.now)

abbrev pub decreases-block : goal.decreases-block
decreases-block l = work_all (statements_of (map statement_of l.all.now)) + 2

abbrev pub decreases-all_of : goal.decreases-all_of
decreases-all_of l = work_all (statements_of (map statement_of l.all.now)) + 1

abbrev pub decreases-branch : goal.decreases-branch
decreases-branch l = work_statement (statement_of l.a.now) + 2

abbrev pub decreases-branches : goal.decreases-branches
decreases-branches l = work_statement (statement_of l.a.now) + work_statement (statement_of l.b.now) + 2

abbrev pub decreases-switch : goal.decreases-switch
decreases-switch l = work_all (statements_of (map statement_of l.all.now)) + 3

abbrev pub decreases-jump : goal.decreases-jump
decreases-jump l = work_all (statements_of (map statement_of l.all.now)) + 2

abbrev pub decreases-while_loop : goal.decreases-while_loop
decreases-while_loop l = work_statement (statement_of l.a.now) + 3

abbrev pub decreases-do_loop : goal.decreases-do_loop
decreases-do_loop l = work_statement (statement_of l.a.now) + 3

abbrev pub decreases-for_loop : goal.decreases-for_loop
decreases-for_loop l = work_all (statements_of (map statement_of l.declared.now)) + work_statement (statement_of l.a.now) + 4

abbrev pub decreases-turns : goal.decreases-turns
decreases-turns l = work_statement (statement_of l.a.now) + 1

abbrev pub decreases-all_of-loop-a : goal.decreases-all_of-loop-a
decreases-all_of-loop-a l = length l.rest

abbrev pub invariant-all_of-loop-a : goal.invariant-all_of-loop-a
invariant-all_of-loop-a l = record {
  spends : Spends l.initial.clock.spent l.clock.spent l.scope.limit;
  below : work_all (statements_of (map statement_of l.rest)) ≤ work_all (statements_of (map statement_of l.all));
  here : quick_all (statements_of (map statement_of l.all)) ≡ true → quick_all (statements_of (map statement_of l.rest)) ≡ true;
  leads : (c : Course) (rest : Flow → State → Run Found) →
      Leads c l.initial.clock.spent l.initial.scene (all_executed (objects_in l.scope) (statements_of (map statement_of l.all)) (program_of l.scope.program.now)) rest →
      Leads c l.clock.spent l.scene (all_executed (objects_in l.scope) (statements_of (map statement_of l.rest)) (program_of l.scope.program.now)) rest;
}

abbrev pub invariant-turns-loop-v : goal.invariant-turns-loop-v
invariant-turns-loop-v l = record {
  spends : Spends l.initial.clock.spent l.clock.spent l.scope.limit;
  leads : (c : Course) (rest : Flow → State → Run Found) →
      let p = program_of l.scope.program.now in
      let part : State → Run Flow = λ s. loop p (call_in p) (objects_in l.scope) (option_map (λ e. value_of e.now) l.test) (statement_of l.a) (option_map (λ e. value_of e.now) l.step) s in
      Leads c l.initial.clock.spent l.initial.scene part rest → Leads c l.clock.spent l.scene part rest;
}

abbrev pub decreases-turns-loop-v : goal.decreases-turns-loop-v
decreases-turns-loop-v l = l.scope.limit - l.clock.spent
