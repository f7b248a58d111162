use Rattle.std.proofs.Common.{◌≡◌, ◌+◌, ◌≤◌, map, length}
use Rattle.typed_ast.specs.View.{statement_of, statements_of}
use Rattle.interp_eval.specs.layer.Quick.{quick_all}
use Rattle.interp_eval.proofs.Work.{work_statement, work_all}
use Rattle.interp_eval.proofs.quick.+quick_statements.Given as goal

abbrev pub decreases-are_quick : goal.decreases-are_quick
decreases-are_quick l = work_all (statements_of (map statement_of l.all.now)) + 1

abbrev pub decreases-is_quick_statement : goal.decreases-is_quick_statement
decreases-is_quick_statement l = work_statement (statement_of l.a.now)

abbrev pub decreases-are_quick-loop-a : goal.decreases-are_quick-loop-a
decreases-are_quick-loop-a l = length l.rest

abbrev pub invariant-are_quick-loop-a : goal.invariant-are_quick-loop-a
invariant-are_quick-loop-a l = record {
  below : work_all (statements_of (map statement_of l.rest)) ≤ work_all (statements_of (map statement_of l.all));
  same : quick_all (statements_of (map statement_of l.rest)) ≡ quick_all (statements_of (map statement_of l.all));
}
