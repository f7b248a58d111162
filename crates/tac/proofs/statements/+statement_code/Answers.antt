use Rattle.std.proofs.Common.{◌≡◌, ap, map, length, ◌∙◌, arith}
use Rattle.typed_ast.specs.View.{value_of, option_value, statement_of, statements_of}
use Rattle.lower_ops.specs.declared.modes.Shape.TheVariants as shape
use Rattle.csem.specs.Statements.{labels_of}
use Rattle.lower_correct.specs.Values.{waits_in, mode_of}
use Rattle.lower_correct.specs.Bodies.{is_within, has_objects}
use Rattle.lower_ops.specs.layer.Parts.{meant, plus, shape_of}
use Rattle.lower_exprs.specs.layer.Sizes.{value_size}
use Rattle.tac.specs.inside.Scopes.{program_in, function_in}
use Rattle.tac.specs.inside.Sizes.{statement_size, statements_size, tests_size, effects_size, repeats_size}
use Rattle.lower_exprs.proofs.Room.{near_mode}
use Rattle.tac.proofs.HeldStatements.{sees_empty, sees_evaluate, sees_declare, sees_define, sees_block, sees_if, sees_ifelse, sees_switch, sees_case, sees_default, sees_while, sees_dowhile, sees_for, sees_break, sees_continue, sees_returnnothing, sees_returnvalue}
use Rattle.lower_ops.proofs.Parts.{two}
use Rattle.tac.proofs.Blocks.{branch_wrote, branches_wrote, while_wrote, do_while_wrote, for_wrote}
use Rattle.tac.proofs.Placed.{and_placed, placed_all, switch_wrote}
use Rattle.tac.proofs.statements.+statement_code.Goals as goal

pub put_block-returns : goal.put_block-returns
put_block-returns t c =
    two c.in_ok-put.ensures (placed_all (program_in c.args.scope.now) (function_in c.args.scope.now) (statements_of (map statement_of c.args.all.now)) c.args.out c.args.again c.args.back c.in_ok-put_statements.ensures)

pub put_if-returns : goal.put_if-returns
put_if-returns t c =
    let l = length c.args.code.now.list.items in
    let ne = value_size (value_of c.args.e.now) shape.Jump in
    let h : c.ahead-end.result ≡ plus l (plus 1 (plus ne (statement_size (program_in c.args.scope.now) (function_in c.args.scope.now) (statement_of c.args.a.now)))) = c.ahead-end.ensures ∙ ap (λ n. plus l n) (c.plus-2.ensures ∙ ap (λ n. plus 1 n) (c.plus.ensures ∙ ap (λ n. plus n c.statement_size.result) c.value_size-test.ensures ∙ ap (λ n. plus ne n) c.statement_size.ensures)) in
    branch_wrote (program_in c.args.scope.now) (function_in c.args.scope.now) (value_of c.args.e.now) (statement_of c.args.a.now) c.args.out c.args.again c.args.back c.ahead-end.result h c.in_ok-put.ensures (rw (c.all_free.ensures.temporary, c.all_free.ensures.slot) at c.in_ok-put_value.ensures) c.in_ok-put_statement.ensures

pub put_if_else-returns : goal.put_if_else-returns
put_if_else-returns t c =
    let l = length c.args.code.now.list.items in
    let nc = value_size (value_of c.args.e.now) shape.Jump in
    let na = statement_size (program_in c.args.scope.now) (function_in c.args.scope.now) (statement_of c.args.a.now) in
    let nb = statement_size (program_in c.args.scope.now) (function_in c.args.scope.now) (statement_of c.args.b.now) in
    let eo : c.ahead-other.result ≡ plus l (plus 1 (plus nc (plus na 1))) = c.ahead-other.ensures ∙ ap (λ n. plus l n) (c.plus-3.ensures ∙ ap (λ n. plus 1 n) (c.plus-2.ensures ∙ ap (λ n. plus n c.plus.result) c.value_size-test.ensures
    ∙ ap (λ n. plus nc n) (c.plus.ensures ∙ ap (λ n. plus n 1) c.statement_size-first.ensures))) in
    let ee : c.ahead-end.result ≡ plus l (plus 1 (plus nc (plus na (plus 1 nb)))) = c.ahead-end.ensures ∙ ap (λ n. plus l n) (c.plus-7.ensures ∙ ap (λ n. plus 1 n) (c.plus-6.ensures ∙ ap (λ n. plus n c.plus-5.result) c.value_size-test.ensures
    ∙ ap (λ n. plus nc n) (c.plus-5.ensures ∙ ap (λ n. plus n c.plus-4.result) c.statement_size-first.ensures ∙ ap (λ n. plus na n) (c.plus-4.ensures ∙ ap (λ n. plus 1 n) c.statement_size-second.ensures)))) in
    branches_wrote (program_in c.args.scope.now) (function_in c.args.scope.now) (value_of c.args.e.now) (statement_of c.args.a.now) (statement_of c.args.b.now) c.args.out c.args.again c.args.back c.ahead-other.result c.ahead-end.result eo ee c.in_ok-put.ensures (rw (c.all_free.ensures.temporary, c.all_free.ensures.slot) at c.in_ok-put_value.ensures) c.in_ok-put_statement.ensures c.in_ok-put-2.ensures c.in_ok-put_statement-2.ensures

pub put_while-returns : goal.put_while-returns
put_while-returns t c =
    let l = length c.args.code.now.list.items in
    let na = statement_size (program_in c.args.scope.now) (function_in c.args.scope.now) (statement_of c.args.a.now) in
    let ha : c.ahead-at.result ≡ plus l (plus 1 na) = c.ahead-at.ensures ∙ ap (λ n. plus l n) (c.plus.ensures ∙ ap (λ n. plus 1 n) c.statement_size-body.ensures) in
    let he : c.ahead-end.result ≡ plus l (plus 1 (plus na (value_size (value_of c.args.e.now) shape.Jump))) = c.ahead-end.ensures ∙ ap (λ n. plus l n) (c.plus-3.ensures ∙ ap (λ n. plus 1 n) (c.plus-2.ensures ∙ ap (λ n. plus n c.value_size-test.result) c.statement_size-body.ensures
    ∙ ap (λ n. plus na n) c.value_size-test.ensures)) in
    λ out again. while_wrote (program_in c.args.scope.now) (function_in c.args.scope.now) (value_of c.args.e.now) (statement_of c.args.a.now) out again c.args.back c.ahead-top.result c.ahead-at.result c.ahead-end.result c.ahead-top.ensures ha he c.in_ok-put.ensures c.in_ok-put_statement.ensures (rw (c.all_free.ensures.temporary, c.all_free.ensures.slot) at c.in_ok-put_value.ensures)

pub put_do_while-returns : goal.put_do_while-returns
put_do_while-returns t c =
    let l = length c.args.code.now.list.items in
    let na = statement_size (program_in c.args.scope.now) (function_in c.args.scope.now) (statement_of c.args.a.now) in
    let ha : c.ahead-at.result ≡ plus l (plus 1 na) = c.ahead-at.ensures ∙ ap (λ n. plus l n) (c.plus.ensures ∙ ap (λ n. plus 1 n) c.statement_size-body.ensures) in
    let he : c.ahead-end.result ≡ plus l (plus 1 (plus na (value_size (value_of c.args.e.now) shape.Jump))) = c.ahead-end.ensures ∙ ap (λ n. plus l n) (c.plus-3.ensures ∙ ap (λ n. plus 1 n) (c.plus-2.ensures ∙ ap (λ n. plus n c.value_size-test.result) c.statement_size-body.ensures
    ∙ ap (λ n. plus na n) c.value_size-test.ensures)) in
    λ out again. do_while_wrote (program_in c.args.scope.now) (function_in c.args.scope.now) (statement_of c.args.a.now) (value_of c.args.e.now) out again c.args.back c.ahead-top.result c.ahead-at.result c.ahead-end.result c.ahead-top.ensures ha he c.in_ok-put.ensures c.in_ok-put_statement.ensures (rw (c.all_free.ensures.temporary, c.all_free.ensures.slot) at c.in_ok-put_value.ensures)

pub put_for-returns : goal.put_for-returns
put_for-returns t c =
    let l = length c.args.code.now.list.items in
    let nd = statements_size (program_in c.args.scope.now) (function_in c.args.scope.now) (statements_of (map statement_of c.args.declared.now)) in
    let ns = effects_size (option_value c.args.start.now) in
    let na = statement_size (program_in c.args.scope.now) (function_in c.args.scope.now) (statement_of c.args.a.now) in
    let nt = effects_size (option_value c.args.step.now) in
    let nr = repeats_size (option_value c.args.test.now) in
    let h1 : c.ahead-top.result ≡ plus l (plus 1 (plus nd (plus ns 1))) = c.ahead-top.ensures ∙ ap (λ n. plus l n) c.before_body.ensures in
    let h2 : c.ahead-next.result ≡ plus l (plus 1 (plus nd (plus ns (plus 1 na)))) = c.ahead-next.ensures ∙ ap (λ n. plus l n) (c.before_body-2.ensures ∙ ap (λ n. plus 1 (plus nd (plus ns n))) (c.plus-body.ensures ∙ ap (λ n. plus 1 n) c.statement_size.ensures)) in
    let h3 : c.ahead-at.result ≡ plus l (plus 1 (plus nd (plus ns (plus 1 (plus na nt))))) = c.ahead-at.ensures ∙ ap (λ n. plus l n) (c.before_body-3.ensures ∙ ap (λ n. plus 1 (plus nd (plus ns n))) (c.plus-behind.ensures
    ∙ ap (λ n. plus 1 n) (c.plus.ensures ∙ ap (λ n. plus n c.effects_size.result) c.statement_size-2.ensures ∙ ap (λ n. plus na n) c.effects_size.ensures))) in
    let h4 : c.ahead-end.result ≡ plus l (plus 1 (plus nd (plus ns (plus 1 (plus na (plus nt nr)))))) = c.ahead-end.ensures ∙ ap (λ n. plus l n) (c.before_body-4.ensures ∙ ap (λ n. plus 1 (plus nd (plus ns n))) (c.plus-all.ensures
    ∙ ap (λ n. plus 1 n) (c.plus-2.ensures ∙ ap (λ n. plus n c.plus-rest.result) c.statement_size-3.ensures
    ∙ ap (λ n. plus na n) (c.plus-rest.ensures ∙ ap (λ n. plus n c.repeats_size.result) c.effects_size-2.ensures ∙ ap (λ n. plus nt n) c.repeats_size.ensures)))) in
    λ out again. for_wrote (program_in c.args.scope.now) (function_in c.args.scope.now) (statements_of (map statement_of c.args.declared.now)) (option_value c.args.start.now) (option_value c.args.test.now) (option_value c.args.step.now) (statement_of c.args.a.now) out again c.args.back
    c.ahead-top.result c.ahead-next.result c.ahead-at.result c.ahead-end.result h1 h2 h3 h4
    c.in_ok-put.ensures (placed_all (program_in c.args.scope.now) (function_in c.args.scope.now) (statements_of (map statement_of c.args.declared.now)) c.ahead-end.result c.ahead-end.result c.args.back c.in_ok-put_statements.ensures) c.in_ok-put_effects.ensures c.in_ok-put-2.ensures c.in_ok-put_statement.ensures c.in_ok-put_effects-2.ensures c.in_ok-put_repeats.ensures

pub put_statement-returns-in_ok-put-in-Empty : goal.put_statement-returns-in_ok-put-in-Empty
put_statement-returns-in_ok-put-in-Empty t c =
    let s = c.in-Empty in
    rw (sees_empty c.args.statement.now s.field-0 s.is) (c.in_ok-put-in-Empty.ensures)

pub put_statement-returns-in_ok-put_evaluated-in-Evaluate : goal.put_statement-returns-in_ok-put_evaluated-in-Evaluate
put_statement-returns-in_ok-put_evaluated-in-Evaluate t c =
    let s = c.in-Evaluate in
    rw (sees_evaluate c.args.statement.now s.field-0 s.e s.is) (c.in_ok-put_evaluated-in-Evaluate.ensures c.args.out c.args.again c.args.back)

pub put_statement-returns-in_ok-put-in-Declare : goal.put_statement-returns-in_ok-put-in-Declare
put_statement-returns-in_ok-put-in-Declare t c =
    let s = c.in-Declare in
    rw (sees_declare c.args.statement.now s.field-0 s.object s.is) (c.in_ok-put-in-Declare.ensures)

pub put_statement-returns-in_ok-put_defined-in-Define : goal.put_statement-returns-in_ok-put_defined-in-Define
put_statement-returns-in_ok-put_defined-in-Define t c =
    let s = c.in-Define in
    rw (sees_define c.args.statement.now s.field-0 s.object s.initialiser s.is) (c.in_ok-put_defined-in-Define.ensures c.args.out c.args.again c.args.back)

pub put_statement-returns-in_ok-put_block-in-Block : goal.put_statement-returns-in_ok-put_block-in-Block
put_statement-returns-in_ok-put_block-in-Block t c =
    let s = c.in-Block in
    rw (sees_block c.args.statement.now s.field-0 s.first s.count s.all s.is) (rw c.deref.ensures.value at (c.in_ok-put_block-in-Block.ensures))

pub put_statement-returns-in_ok-put_if-in-If : goal.put_statement-returns-in_ok-put_if-in-If
put_statement-returns-in_ok-put_if-in-If t c =
    let s = c.in-If in
    rw (sees_if c.args.statement.now s.field-0 s.e s.a s.is) (rw c.deref-in-If.ensures at (c.in_ok-put_if-in-If.ensures))

pub put_statement-returns-in_ok-put_if_else-in-IfElse : goal.put_statement-returns-in_ok-put_if_else-in-IfElse
put_statement-returns-in_ok-put_if_else-in-IfElse t c =
    let s = c.in-IfElse in
    rw (sees_ifelse c.args.statement.now s.field-0 s.e s.a s.b s.is) (rw (c.deref-in-IfElse.ensures, c.deref-in-IfElse-2.ensures) at (c.in_ok-put_if_else-in-IfElse.ensures))

pub put_statement-returns-in_ok-put-in-Case : goal.put_statement-returns-in_ok-put-in-Case
put_statement-returns-in_ok-put-in-Case t c =
    let s = c.in-Case in
    rw (sees_case c.args.statement.now s.field-0 s.field-1 s.is) (c.in_ok-put-in-Case.ensures)

pub put_statement-returns-in_ok-put-in-Default : goal.put_statement-returns-in_ok-put-in-Default
put_statement-returns-in_ok-put-in-Default t c =
    let s = c.in-Default in
    rw (sees_default c.args.statement.now s.field-0 s.is) (c.in_ok-put-in-Default.ensures)

pub put_statement-returns-in_ok-put_while-in-While : goal.put_statement-returns-in_ok-put_while-in-While
put_statement-returns-in_ok-put_while-in-While t c =
    let s = c.in-While in
    rw (sees_while c.args.statement.now s.field-0 s.e s.a s.is) (rw c.deref-in-While.ensures at (c.in_ok-put_while-in-While.ensures c.args.out c.args.again))

pub put_statement-returns-in_ok-put_do_while-in-DoWhile : goal.put_statement-returns-in_ok-put_do_while-in-DoWhile
put_statement-returns-in_ok-put_do_while-in-DoWhile t c =
    let s = c.in-DoWhile in
    rw (sees_dowhile c.args.statement.now s.field-0 s.a s.e s.is) (rw c.deref-in-DoWhile.ensures at (c.in_ok-put_do_while-in-DoWhile.ensures c.args.out c.args.again))

pub put_statement-returns-in_ok-put_for-in-For : goal.put_statement-returns-in_ok-put_for-in-For
put_statement-returns-in_ok-put_for-in-For t c =
    let s = c.in-For in
    rw (sees_for c.args.statement.now s.field-0 s.declared s.control s.a s.is) (rw (c.deref-in-For.ensures.value, c.deref-in-For-2.ensures, c.deref-in-For-3.ensures, c.deref-in-For-4.ensures, c.deref-in-For-5.ensures) at (c.in_ok-put_for-in-For.ensures c.args.out c.args.again))

pub put_statement-returns-in_ok-put-in-Break : goal.put_statement-returns-in_ok-put-in-Break
put_statement-returns-in_ok-put-in-Break t c =
    let s = c.in-Break in
    rw (sees_break c.args.statement.now s.field-0 s.is) (c.in_ok-put-in-Break.ensures)

pub put_statement-returns-in_ok-put-in-Continue : goal.put_statement-returns-in_ok-put-in-Continue
put_statement-returns-in_ok-put-in-Continue t c =
    let s = c.in-Continue in
    rw (sees_continue c.args.statement.now s.field-0 s.is) (c.in_ok-put-in-Continue.ensures)

pub put_statement-returns-in_ok-put_return-in-ReturnNothing : goal.put_statement-returns-in_ok-put_return-in-ReturnNothing
put_statement-returns-in_ok-put_return-in-ReturnNothing t c =
    let s = c.in-ReturnNothing in
    rw (sees_returnnothing c.args.statement.now s.field-0 s.is) (c.in_ok-put_return-in-ReturnNothing.ensures c.args.out c.args.again)

pub put_statement-returns-in_ok-put_returned-in-ReturnValue : goal.put_statement-returns-in_ok-put_returned-in-ReturnValue
put_statement-returns-in_ok-put_returned-in-ReturnValue t c =
    let s = c.in-ReturnValue in
    rw (sees_returnvalue c.args.statement.now s.field-0 s.ty s.e s.is) (c.in_ok-put_returned-in-ReturnValue.ensures c.args.out c.args.again)

pub put_statements-returns-in_ok-put_statements-in-Some : goal.put_statements-returns-in_ok-put_statements-in-Some
put_statements-returns-in_ok-put_statements-in-Some t c =
    let s = c.in-Some.ensures.cases in
    rw s.0 (and_placed (program_in c.args.scope.now) (function_in c.args.scope.now) (statement_of c.in-Some.statement.now) (statements_of (map statement_of c.in-Some.more.now)) c.args.out c.args.again c.args.back c.in_ok-put_statement-in-Some.ensures c.in_ok-put_statements-in-Some.ensures)

pub put_switch-returns : goal.put_switch-returns
put_switch-returns t c =
    let l = length c.args.code.now.list.items in
    let e = value_of c.args.e.now in
    let all = statements_of (map statement_of c.args.all.now) in
    let o = waits_in e (is_within c.args.first c.args.count) (has_objects c.args.count) 0 0 in
    let nv = value_size e (shape_of (mode_of o)) in
    let nt = tests_size (labels_of all) in
    let ns = statements_size (program_in c.args.scope.now) (function_in c.args.scope.now) all in
    let ev : c.value_size-value.result ≡ nv = c.value_size-value.ensures ∙ ap (λ s. value_size e s) (c.shape_for.ensures ∙ ap (λ k. shape_of (mode_of k)) c.waits_for_objects-operand.ensures) in
    let eb : c.ahead-body.result ≡ plus l (plus 1 (plus nv (plus 1 nt))) = c.ahead-body.ensures ∙ ap (λ n. plus l n) (c.plus-3.ensures ∙ ap (λ n. plus 1 n) (c.plus-2.ensures ∙ ap (λ n. plus n c.plus.result) ev
    ∙ ap (λ n. plus nv n) (c.plus.ensures ∙ ap (λ n. plus 1 n) c.tests_size-tests.ensures))) in
    let ee : c.ahead-end.result ≡ plus l (plus 1 (plus nv (plus 1 (plus nt ns)))) = c.ahead-end.ensures ∙ ap (λ n. plus l n) (c.plus-6.ensures ∙ ap (λ n. plus 1 n) (c.plus-5.ensures ∙ ap (λ n. plus n c.plus-behind.result) ev
    ∙ ap (λ n. plus nv n) (c.plus-behind.ensures ∙ ap (λ n. plus 1 n) (c.plus-4.ensures ∙ ap (λ n. plus n c.statements_size.result) c.tests_size-tests.ensures ∙ ap (λ n. plus nt n) c.statements_size.ensures)))) in
    λ u out. switch_wrote (program_in c.args.scope.now) (function_in c.args.scope.now) u e c.args.first c.args.count all out c.args.again c.args.back c.ahead-body.result c.ahead-end.result eb ee
    c.in_ok-put.ensures
    (rw (c.all_free.ensures.temporary, c.all_free.ensures.slot, c.mode_of.ensures, c.waits_for_objects-operand.ensures) at c.in_ok-put_value.ensures)
    (rw c.forgets.ensures at c.in_ok-put-2.ensures) (rw c.waits_for_objects-operand.ensures at c.in_ok-put_tests.ensures) c.in_ok-put_statements.ensures

pub put_statement-returns-in_ok-put_switch-in-Switch : goal.put_statement-returns-in_ok-put_switch-in-Switch
put_statement-returns-in_ok-put_switch-in-Switch t c =
    let s = c.in-Switch in
    rw (sees_switch c.args.statement.now s.field-0 s.field-1 s.e s.first s.count s.all s.is) (rw c.deref-in-Switch.ensures.value at (c.in_ok-put_switch-in-Switch.ensures s.field-1 c.args.out))

pub put_switch-put_value-requires-clause-aim : goal.put_switch-put_value-requires-clause-aim
put_switch-put_value-requires-clause-aim t c =
    near_mode (value_of c.args.e.now) (is_within c.args.first c.args.count) (has_objects c.args.count) 0 0 c.waits_for_objects-operand.result (meant c.mode_of.result) c.waits_for_objects-operand.ensures c.mode_of.ensures (omega arith)
