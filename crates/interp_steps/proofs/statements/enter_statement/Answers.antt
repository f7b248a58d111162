use Rattle.std.proofs.Common.{ap, ◌∙◌, sym, List, map}
use Rattle.typed_ast.specs.declared.statements.ForControl.{ForControl}
use Rattle.typed_ast.specs.declared.statements.Statement.{Statement}
use Rattle.typed_ast.specs.View.{object_type_of, statement_of, statements_of}
use Rattle.typing_spec.specs.Program as typed
use Rattle.interp_steps.proofs.Held.{sees_define, sees_block, sees_switch, lends_for}
use Rattle.interp_steps.proofs.Steps.{statement_as}
use Rattle.interp_steps.proofs.statements.enter_statement.Goals as goal

pub returns-in-Define-clause-takes : goal.returns-in-Define-clause-takes
returns-in-Define-clause-takes c = let i = c.in-Define in
    statement_as c.args.machine.now c.define.new.machine c.define.result (map object_type_of c.args.objects.now) (statement_of c.args.a.now) _
    (sees_define c.args.a.now i.field-0 i.n i.i i.is) c.define.ensures.takes

pub returns-in-Block-clause-takes : goal.returns-in-Block-clause-takes
returns-in-Block-clause-takes c = let i = c.in-Block in
    statement_as c.args.machine.now c.open_block.new.machine c.open_block.result (map object_type_of c.args.objects.now) (statement_of c.args.a.now) _
    (sees_block c.args.a.now i.field-0 i.first i.count i.all i.is ∙ ap (λ (all : List Statement). typed.block i.first i.count (statements_of (map statement_of all))) (sym c.deref.ensures.value)) c.open_block.ensures.takes

pub returns-in-Switch-clause-takes : goal.returns-in-Switch-clause-takes
returns-in-Switch-clause-takes c = let i = c.in-Switch in
    statement_as c.args.machine.now c.control-in-Switch.new.machine c.control-in-Switch.result (map object_type_of c.args.objects.now) (statement_of c.args.a.now) _
    (sees_switch c.args.a.now i.field-0 i.ty i.e i.first i.count i.all i.is) c.control-in-Switch.ensures.takes

pub returns-in-For-clause-takes : goal.returns-in-For-clause-takes
returns-in-For-clause-takes c = let i = c.in-For in
    statement_as c.args.machine.now c.start_for.new.machine c.start_for.result (map object_type_of c.args.objects.now) (statement_of c.args.a.now) _
    (lends_for c.args.a.now i.field-0 i.declared i.control i.body c.deref-in-For-3.result.now c.as_ref-in-For-2.result c.as_ref.result c.as_ref-in-For.result
    i.is c.deref-in-For-3.ensures.value (c.as_ref-in-For-2.ensures.value ∙ ap (λ (k : ForControl). k.start) c.deref-in-For-4.ensures) (c.as_ref.ensures.value ∙ ap (λ (k : ForControl). k.test) c.deref-in-For.ensures) (c.as_ref-in-For.ensures.value ∙ ap (λ (k : ForControl). k.step) c.deref-in-For-2.ensures)) c.start_for.ensures.takes
