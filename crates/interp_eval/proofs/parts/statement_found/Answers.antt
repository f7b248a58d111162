use Rattle.std.proofs.Common.{Some}
use Rattle.typed_ast.specs.View.{program_of, statement_of}
use Rattle.interp_store.specs.layer.Frames as on
use Rattle.interp_store.specs.layer.Views.{flow_of}
use Rattle.interp_eval.specs.layer.Comes.{executed, objects_in}
use Rattle.interp_eval.proofs.Comings.{leads_given, came}
use Rattle.interp_eval.proofs.parts.statement_found.Goals as goal

pub returns-in-None-clause-does : goal.returns-in-None-clause-does
returns-in-None-clause-does c = λ run rest h.
    let part = executed (objects_in c.args.scope.now) (statement_of c.args.a.now) (program_of c.args.scope.now.program.now) in
    came flow_of run c.args.scope.now.limit (λ v s. rest (on.a_flow v) s) _ _ c.statement.new.clock c.statement.new.scene c.in-None.is
    (c.statement.ensures.does run (λ v s. rest (on.a_flow v) s) (leads_given on.a_flow run c.args.clock.now.spent c.args.scene.now part rest h))

pub returns-in-None-clause-here : goal.returns-in-None-clause-here
returns-in-None-clause-here c = λ q none. c.statement.ensures.here q c.in-None.is

pub returns-in-Some-clause-does : goal.returns-in-Some-clause-does
returns-in-Some-clause-does c = λ run rest h.
    let part = executed (objects_in c.args.scope.now) (statement_of c.args.a.now) (program_of c.args.scope.now.program.now) in
    came flow_of run c.args.scope.now.limit (λ v s. rest (on.a_flow v) s) _ (Some c.in-Some.flow) c.statement.new.clock c.statement.new.scene c.in-Some.is
    (c.statement.ensures.does run (λ v s. rest (on.a_flow v) s) (leads_given on.a_flow run c.args.clock.now.spent c.args.scene.now part rest h))
