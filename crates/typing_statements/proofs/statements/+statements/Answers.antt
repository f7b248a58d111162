use Rattle.std.proofs.Common.{◌≡◌, ◌++◌, ◌∷◌, [], refl, sym, ap, ◌∙◌, subst, map, append-nil, arith, rules, None, Some, Ok, w64, of_z, to_z}
use Rattle.std.proofs.Math.Facts.{to_z-of_z}
use Rattle.srcset.specs.declared.code.Code.TheVariants as code
use Rattle.typed_ast.specs.declared.statements.Statement as S
use Rattle.tree.specs.View.{tree_of, option_tree, start_of, stmt_of, piece_of, pieces_of}
use Rattle.typing_spec.specs.Scope.{past}
use Rattle.typing_spec.specs.Verdict.{breaks}
use Rattle.typing_spec.specs.Statements.{Done, statement}
use Rattle.typing_expressions.specs.Refused.{IsOf, Tells}
use Rattle.typing_scopes.specs.Scopes.{with_texts}
use Rattle.typing_statements.specs.Views.{around_of}
use Rattle.typing_statements.specs.inside.Pieces.{block_items}
use Rattle.typing_statements.proofs.Rules.{if_fine, if_left, if_right, if_else_fine, if_else_left, if_else_first, if_else_second, while_fine, while_left, while_right, do_fine, do_left, do_right, head_inner, else_labelled}
use Rattle.typing_statements.proofs.ForRules.{for_fine, for_left, for_control, for_right}
use Rattle.typing_statements.proofs.BlockRules.{block_fine, block_tells, switch_fine, switch_pieces, switch_twice, switch_ok, switch_err, switch_no_block, switch_left, case_ok, case_err, case_left, case_misplaced, default_ok, default_err, default_misplaced, item_fine, item_tells, begun, next, stops, ended}
use Rattle.typing_statements.proofs.TreeForms.{told_as, labelled_as, unlabelled_as, alone_as, block_tree, empty_tree, expression_tree, if_tree, if_else_tree, switch_tree, case_tree, default_tree, while_tree, do_tree, for_tree, break_tree, continue_tree, return_tree, empty_done}
use Rattle.typing_statements.proofs.Outsides.{scoped_fine, scoped_tells, for_outside, inner_fine, declaration_puts, declaration_puts_not, statement_puts, statement_puts_not}
use Rattle.typing_statements.proofs.statements.+statements.Goals as goal

pub block_typed-returns-in-Ok-clause-ok : goal.block_typed-returns-in-Ok-clause-ok
block_typed-returns-in-Ok-clause-ok t c =
    λ d. block_fine (around_of c.args.around) d c.args.names.now c.args.scope.now c.scoped_items.new.scope c.args.pos (pieces_of (map piece_of c.args.items.now)) c.object_count-first.result c.objects_since-count.result c.new-labels.result.items c.scoped_items.new.labels.items c.args.initial.now.items c.scoped_items.new.initial.items c.in-Ok.all c.object_count-first.ensures c.objects_since-count.ensures c.in-Ok.ensures.ok

pub block_typed-returns-clause-err : goal.block_typed-returns-clause-err
block_typed-returns-clause-err t c =
    λ d. block_tells (around_of c.args.around) d c.args.names.now c.args.scope.now c.args.pos (pieces_of (map piece_of c.args.items.now)) c.in-Err.refusal c.in-Err.ensures.err

pub case_typed-returns-in_default-clause-err : goal.case_typed-returns-in_default-clause-err
case_typed-returns-in_default-clause-err t c =
    case_misplaced (around_of c.args.around) c.args.direct (with_texts c.args.names.now c.args.scope.now) c.args.pos (tree_of c.args.e.now) (stmt_of c.args.a.now) c.misplaced.result c.in_default.is c.misplaced.ensures

pub case_typed-returns-in-Err-clause-err : goal.case_typed-returns-in-Err-clause-err
case_typed-returns-in-Err-clause-err t c =
    case_left (around_of c.args.around) c.args.direct c.in-Some.ty (with_texts c.args.names.now c.args.scope.now) c.args.pos (tree_of c.args.e.now) (stmt_of c.args.a.now) c.in-Err.refusal c.in-Some.is c.in-Err.ensures.err

pub case_typed-returns-clause-ok : goal.case_typed-returns-clause-ok
case_typed-returns-clause-ok t c =
    let same : to_z w64 (of_z w64 c.in-Ok.value) ≡ c.in-Ok.value = search (rules, to_z-of_z) in
    case_ok c.statement.result (around_of c.args.around) c.args.direct c.in-Some.ty c.args.names.now c.args.scope.now c.case_past.new.scope c.statement.new.scope c.args.pos (tree_of c.args.e.now) (stmt_of c.args.a.now) c.in-Ok.value c.args.labels.now.items c.push.new.self.items c.statement.new.labels.items c.args.initial.now.items c.statement.new.initial.items c.in-Some.is c.in-Ok.ensures.ok.0 c.in-Ok.ensures.ok.1 (c.in-Ok-push.ensures.items ∙ ap (λ v. c.args.labels.now.items ++ record { pos = c.args.pos; value = Some v } ∷ []) same) c.statement.ensures.ok

pub case_typed-returns-clause-err : goal.case_typed-returns-clause-err
case_typed-returns-clause-err t c =
    case_err c.statement.result (around_of c.args.around) c.args.direct c.in-Some.ty c.args.names.now c.args.scope.now c.case_past.new.scope c.args.pos (tree_of c.args.e.now) (stmt_of c.args.a.now) c.in-Some.is c.in-Ok.ensures.ok.1 c.statement.ensures.err

pub default_typed-returns-in_default-clause-err : goal.default_typed-returns-in_default-clause-err
default_typed-returns-in_default-clause-err t c =
    default_misplaced (around_of c.args.around) c.args.direct (with_texts c.args.names.now c.args.scope.now) c.args.pos (stmt_of c.args.a.now) c.misplaced.result c.in_default.is c.misplaced.ensures

pub default_typed-returns-clause-ok : goal.default_typed-returns-clause-ok
default_typed-returns-clause-ok t c =
    default_ok c.statement.result (around_of c.args.around) c.args.direct c.args.names.now c.args.scope.now c.statement.new.scope c.args.pos (stmt_of c.args.a.now) c.in-Some.ty c.args.labels.now.items c.push.new.self.items c.statement.new.labels.items c.args.initial.now.items c.statement.new.initial.items c.in-Some.is c.in-Ok.ensures.items c.statement.ensures.ok

pub default_typed-returns-clause-err : goal.default_typed-returns-clause-err
default_typed-returns-clause-err t c =
    default_err c.statement.result (around_of c.args.around) c.args.direct (with_texts c.args.names.now c.args.scope.now) c.args.pos (stmt_of c.args.a.now) c.in-Some.ty c.in-Some.is c.statement.ensures.err

pub do_while_typed-returns-in-Err-clause-err : goal.do_while_typed-returns-in-Err-clause-err
do_while_typed-returns-in-Err-clause-err t c =
    λ d. do_left (around_of c.args.around) (around_of c.in_a_loop.result) d c.args.names.now c.args.scope.now c.args.pos (stmt_of c.args.a.now) (tree_of c.args.e.now) c.in-Err.refusal c.in_a_loop.ensures c.in-Err.ensures.err

pub do_while_typed-returns-in-Ok-worth_past-clause-ok : goal.do_while_typed-returns-in-Ok-worth_past-clause-ok
do_while_typed-returns-in-Ok-worth_past-clause-ok t c =
    λ d. do_fine (around_of c.args.around) (around_of c.in_a_loop.result) d c.args.names.now c.args.scope.now c.inner_statement.new.scope c.worth_past.new.scope c.args.pos (stmt_of c.args.a.now) (tree_of c.args.e.now) c.in-Ok-worth_past.test c.args.initial.now.items c.inner_statement.new.initial.items c.in-Ok.a c.in_a_loop.ensures c.in-Ok.ensures.ok c.in-Ok-worth_past.ensures.ok.0 c.in-Ok-worth_past.ensures.ok.1

pub do_while_typed-returns-in-Err-worth_past-clause-err : goal.do_while_typed-returns-in-Err-worth_past-clause-err
do_while_typed-returns-in-Err-worth_past-clause-err t c =
    λ d. do_right (around_of c.args.around) (around_of c.in_a_loop.result) d c.args.names.now c.args.scope.now c.inner_statement.new.scope c.args.pos (stmt_of c.args.a.now) (tree_of c.args.e.now) c.args.initial.now.items c.inner_statement.new.initial.items c.in-Ok.a c.in-Err-worth_past.refusal c.in_a_loop.ensures c.in-Ok.ensures.ok c.in-Err-worth_past.ensures.err

pub if_typed-returns-in-Err-clause-err : goal.if_typed-returns-in-Err-clause-err
if_typed-returns-in-Err-clause-err t c =
    λ d. if_left (around_of c.args.around) d c.args.names.now c.args.scope.now c.args.pos (tree_of c.args.e.now) (stmt_of c.args.a.now) c.in-Err.refusal c.in-Err.ensures.err

pub if_typed-returns-in-Ok-inner_statement-clause-ok : goal.if_typed-returns-in-Ok-inner_statement-clause-ok
if_typed-returns-in-Ok-inner_statement-clause-ok t c =
    λ d. if_fine (around_of c.args.around) d c.args.names.now c.args.scope.now c.worth_past.new.scope c.inner_statement.new.scope c.args.pos (tree_of c.args.e.now) (stmt_of c.args.a.now) c.in-Ok.test c.args.initial.now.items c.inner_statement.new.initial.items c.in-Ok-inner_statement.a c.in-Ok.ensures.ok.0 c.in-Ok.ensures.ok.1 c.in-Ok-inner_statement.ensures.ok

pub if_typed-returns-in-Err-inner_statement-clause-err : goal.if_typed-returns-in-Err-inner_statement-clause-err
if_typed-returns-in-Err-inner_statement-clause-err t c =
    λ d. if_right (around_of c.args.around) d c.args.names.now c.args.scope.now c.worth_past.new.scope c.args.pos (tree_of c.args.e.now) (stmt_of c.args.a.now) c.in-Err-inner_statement.refusal c.in-Ok.ensures.ok.1 c.in-Err-inner_statement.ensures.err

pub while_typed-returns-in-Err-clause-err : goal.while_typed-returns-in-Err-clause-err
while_typed-returns-in-Err-clause-err t c =
    λ d. while_left (around_of c.args.around) d c.args.names.now c.args.scope.now c.args.pos (tree_of c.args.e.now) (stmt_of c.args.a.now) c.in-Err.refusal c.in-Err.ensures.err

pub while_typed-returns-in-Ok-inner_statement-clause-ok : goal.while_typed-returns-in-Ok-inner_statement-clause-ok
while_typed-returns-in-Ok-inner_statement-clause-ok t c =
    λ d. while_fine (around_of c.args.around) (around_of c.in_a_loop.result) d c.args.names.now c.args.scope.now c.worth_past.new.scope c.inner_statement.new.scope c.args.pos (tree_of c.args.e.now) (stmt_of c.args.a.now) c.in-Ok.test c.args.initial.now.items c.inner_statement.new.initial.items c.in-Ok-inner_statement.a c.in_a_loop.ensures c.in-Ok.ensures.ok.0 c.in-Ok.ensures.ok.1 c.in-Ok-inner_statement.ensures.ok

pub while_typed-returns-in-Err-inner_statement-clause-err : goal.while_typed-returns-in-Err-inner_statement-clause-err
while_typed-returns-in-Err-inner_statement-clause-err t c =
    λ d. while_right (around_of c.args.around) (around_of c.in_a_loop.result) d c.args.names.now c.args.scope.now c.worth_past.new.scope c.args.pos (tree_of c.args.e.now) (stmt_of c.args.a.now) c.in-Err-inner_statement.refusal c.in_a_loop.ensures c.in-Ok.ensures.ok.1 c.in-Err-inner_statement.ensures.err

pub for_typed-returns-in-Err-clause-err : goal.for_typed-returns-in-Err-clause-err
for_typed-returns-in-Err-clause-err t c =
    λ d. for_left (around_of c.args.around) d c.args.names.now c.args.scope.now c.inside.new.self c.args.pos (start_of c.args.start.now) (option_tree c.args.test.now) (option_tree c.args.step.now) (stmt_of c.args.a.now) c.in-Err.refusal c.in-Ok.ensures.ok.1 c.in-Err.ensures.err

pub for_typed-returns-in-Err-controlled-clause-err : goal.for_typed-returns-in-Err-controlled-clause-err
for_typed-returns-in-Err-controlled-clause-err t c =
    λ d. for_control (around_of c.args.around) d c.args.names.now c.args.scope.now c.inside.new.self c.started.new.scope c.args.pos (start_of c.args.start.now) (option_tree c.args.test.now) (option_tree c.args.step.now) (stmt_of c.args.a.now) c.new-declared.result.items c.started.new.declared.items c.args.initial.now.items c.started.new.initial.items c.in-Ok-started.first c.in-Err-controlled.refusal c.in-Ok.ensures.ok.1 c.in-Ok-started.ensures.ok c.in-Err-controlled.ensures.err

pub for_typed-returns-in-Err-inner_statement-clause-err : goal.for_typed-returns-in-Err-inner_statement-clause-err
for_typed-returns-in-Err-inner_statement-clause-err t c =
    λ d. for_right (around_of c.args.around) (around_of c.in_a_loop.result) d c.args.names.now c.args.scope.now c.inside.new.self c.started.new.scope c.controlled.new.scope c.inside-2.new.self c.args.pos (start_of c.args.start.now) (option_tree c.args.test.now) (option_tree c.args.step.now) (stmt_of c.args.a.now) c.new-declared.result.items c.started.new.declared.items c.args.initial.now.items c.started.new.initial.items c.in-Ok-started.first c.in-Err-inner_statement.refusal c.in_a_loop.ensures c.in-Ok.ensures.ok.1 c.in-Ok-started.ensures.ok c.in-Ok-controlled.ensures.ok.1 c.in-Ok-inside.ensures.ok.1 c.in-Err-inner_statement.ensures.err

pub for_typed-returns-in-Ok-for_statement-clause-ok : goal.for_typed-returns-in-Ok-for_statement-clause-ok
for_typed-returns-in-Ok-for_statement-clause-ok t c =
    λ d. for_fine (around_of c.args.around) (around_of c.in_a_loop.result) d c.args.names.now c.args.scope.now c.inside.new.self c.started.new.scope c.controlled.new.scope c.inside-2.new.self c.inner_statement.new.scope c.outside.new.self c.args.pos (start_of c.args.start.now) (option_tree c.args.test.now) (option_tree c.args.step.now) (stmt_of c.args.a.now) c.new-declared.result.items c.started.new.declared c.args.initial.now.items c.started.new.initial.items c.inner_statement.new.initial.items c.in-Ok-started.first c.in-Ok-controlled.control c.in-Ok-inner_statement.a c.in-Ok-for_statement.done c.in-Ok-for_statement.ensures.ok c.in_a_loop.ensures c.in-Ok.ensures.ok.1 c.new-declared.ensures.items c.in-Ok-started.ensures.ok c.in-Ok-controlled.ensures.ok.0 c.in-Ok-controlled.ensures.ok.1 c.in-Ok-inside.ensures.ok.1 c.in-Ok-inner_statement.ensures.ok
    (for_outside (around_of c.in_a_loop.result) c.args.names.now c.args.scope.now c.inside.new.self c.started.new.scope c.controlled.new.scope c.inside-2.new.self c.inner_statement.new.scope c.outside.new.self (start_of c.args.start.now) (option_tree c.args.test.now) (option_tree c.args.step.now) (stmt_of c.args.a.now) c.in-Ok.block c.new-declared.result.items c.started.new.declared.items c.args.initial.now.items c.started.new.initial.items c.inner_statement.new.initial.items c.in-Ok-started.first c.in-Ok-inner_statement.a.value c.in-Ok.ensures.ok.0 c.in-Ok.ensures.ok.1 c.in-Ok-started.ensures.ok c.in-Ok-controlled.ensures.ok.1 c.in-Ok-inside.ensures.ok.1 c.in-Ok-inner_statement.ensures.ok c.outside.ensures)

pub inner_statement-returns-in-Err-clause-err : goal.inner_statement-returns-in-Err-clause-err
inner_statement-returns-in-Err-clause-err t c =
    c.in-Err.ensures.err

pub inner_statement-returns-in-Ok-boxed-clause-ok : goal.inner_statement-returns-in-Ok-boxed-clause-ok
inner_statement-returns-in-Ok-boxed-clause-ok t c =
    inner_fine c.in-Ok-boxed.x c.in-Ok.x (statement (around_of c.args.around) None (with_texts c.args.names.now c.args.scope.now) (stmt_of c.args.s.now)) c.new-labels.result.items c.statement.new.labels.items c.args.initial.now.items c.statement.new.initial.items (with_texts c.args.names.now c.statement.new.scope) c.in-Ok-boxed.ensures.ok c.in-Ok.ensures.ok

pub piece-returns-in-Declaration-clause-ok : goal.piece-returns-in-Declaration-clause-ok
piece-returns-in-Declaration-clause-ok t c =
    declaration_puts c.declaration_item.result (around_of c.args.around) c.args.direct (with_texts c.args.names.now c.args.scope.now) (with_texts c.args.names.now c.declaration_item.new.scope) c.args.item.now c.in-Declaration.declaration c.args.labels.now.items c.args.initial.now.items c.declaration_item.new.initial.items c.args.all.now.items c.declaration_item.new.all.items c.in-Declaration.is (c.declaration_item.ensures.ok (around_of c.args.around) c.args.direct)

pub piece-returns-in-Declaration-clause-err : goal.piece-returns-in-Declaration-clause-err
piece-returns-in-Declaration-clause-err t c =
    declaration_puts_not c.declaration_item.result (around_of c.args.around) c.args.direct (with_texts c.args.names.now c.args.scope.now) c.args.item.now c.in-Declaration.declaration c.in-Declaration.is (c.declaration_item.ensures.err (around_of c.args.around) c.args.direct)

pub piece-returns-in-Statement-clause-ok : goal.piece-returns-in-Statement-clause-ok
piece-returns-in-Statement-clause-ok t c =
    statement_puts c.statement_item.result (around_of c.args.around) c.args.direct (with_texts c.args.names.now c.args.scope.now) (with_texts c.args.names.now c.statement_item.new.scope) c.args.item.now c.in-Statement.s c.args.labels.now.items c.statement_item.new.labels.items c.args.initial.now.items c.statement_item.new.initial.items c.args.all.now.items c.statement_item.new.all.items c.in-Statement.is c.statement_item.ensures.ok

pub piece-returns-in-Statement-clause-err : goal.piece-returns-in-Statement-clause-err
piece-returns-in-Statement-clause-err t c =
    statement_puts_not c.statement_item.result (around_of c.args.around) c.args.direct (with_texts c.args.names.now c.args.scope.now) c.args.item.now c.in-Statement.s c.in-Statement.is c.statement_item.ensures.err

pub pieces-loop-item-init : goal.pieces-loop-item-init
pieces-loop-item-init t c =
    begun (around_of c.args.around) c.args.direct c.args.names.now c.args.scope.now (pieces_of (map piece_of c.args.items.now)) c.args.labels.now.items c.args.initial.now.items c.args.all.now.items

pub pieces-returns-in-Err-clause-err : goal.pieces-returns-in-Err-clause-err
pieces-returns-in-Err-clause-err t c =
    stops (around_of c.args.around) c.args.direct c.args.names.now c.args.scope.now c.loop-item.scope c.args.items.now c.loop-item.item-index c.item-item.result c.args.labels.now.items c.loop-item.labels.items c.args.initial.now.items c.loop-item.initial'.items c.args.all.now.items c.loop-item.all.items c.in-Err.refusal c.loop-item-test.true c.item-item.is c.in-Err.ensures.err c.loop-item.invariant

pub pieces-loop-item-preserved : goal.pieces-loop-item-preserved
pieces-loop-item-preserved t c =
    next (around_of c.args.around) c.args.direct c.args.names.now c.args.scope.now c.loop-item.scope c.piece.new.scope c.args.items.now c.loop-item.item-index c.item-item.result c.args.labels.now.items c.loop-item.labels.items c.piece.new.labels.items c.args.initial.now.items c.loop-item.initial'.items c.piece.new.initial.items c.args.all.now.items c.loop-item.all.items c.piece.new.all.items c.loop-item-test.true c.item-item.is c.in-Ok.ensures.ok c.loop-item.invariant

pub pieces-returns-clause-ok : goal.pieces-returns-clause-ok
pieces-returns-clause-ok t c =
    ended (around_of c.args.around) c.args.direct c.args.names.now c.args.scope.now c.loop-item.scope c.args.items.now c.loop-item.item-index c.args.labels.now.items c.loop-item.labels.items c.args.initial.now.items c.loop-item.initial'.items c.args.all.now.items c.loop-item.all.items (omega (arith, c.loop-item-test.false)) c.loop-item.invariant

pub scoped_items-returns-in-Err-clause-err : goal.scoped_items-returns-in-Err-clause-err
scoped_items-returns-in-Err-clause-err t c =
    scoped_tells (around_of c.args.around) c.args.direct c.args.names.now c.args.scope.now c.inside.new.self (pieces_of (map piece_of c.args.items.now)) c.in-Err.refusal c.in-Ok.ensures.ok.1 c.in-Err.ensures.err

pub scoped_items-returns-clause-ok : goal.scoped_items-returns-clause-ok
scoped_items-returns-clause-ok t c =
    scoped_fine (around_of c.args.around) c.args.direct c.args.names.now c.args.scope.now c.inside.new.self c.pieces.new.scope c.outside.new.self (pieces_of (map piece_of c.args.items.now)) c.in-Ok.block c.args.labels.now.items c.pieces.new.labels.items c.args.initial.now.items c.pieces.new.initial.items c.new-all.result.items c.pieces.new.all.items c.in-Ok.ensures.ok.0 c.in-Ok.ensures.ok.1 c.new-all.ensures.items c.in-Ok-pieces.ensures.ok c.outside.ensures

pub statement-returns-in-Block-clause-ok : goal.statement-returns-in-Block-clause-ok
statement-returns-in-Block-clause-ok t c =
    unlabelled_as c.block_typed.result _ _ c.args.labels.now.items c.args.initial.now.items c.block_typed.new.initial.items (with_texts c.args.names.now c.block_typed.new.scope) (ap (statement (around_of c.args.around) c.args.direct (with_texts c.args.names.now c.args.scope.now)) (block_tree c.args.s.now c.in-Block.pos c.in-Block.items _ c.in-Block.is c.deref.ensures.value)) (c.block_typed.ensures.ok c.args.direct)

pub statement-returns-in-Block-clause-err : goal.statement-returns-in-Block-clause-err
statement-returns-in-Block-clause-err t c =
    told_as c.block_typed.result _ _ (ap (statement (around_of c.args.around) c.args.direct (with_texts c.args.names.now c.args.scope.now)) (block_tree c.args.s.now c.in-Block.pos c.in-Block.items _ c.in-Block.is c.deref.ensures.value)) (c.block_typed.ensures.err c.args.direct)

pub statement-returns-in-Empty-clause-ok : goal.statement-returns-in-Empty-clause-ok
statement-returns-in-Empty-clause-ok t c =
    ([], [], sym (append-nil c.args.labels.now.items), sym (append-nil c.args.initial.now.items), ap (statement (around_of c.args.around) c.args.direct (with_texts c.args.names.now c.args.scope.now)) (empty_tree c.args.s.now c.in-Empty.pos c.in-Empty.is) ∙ empty_done (around_of c.args.around) c.args.direct (with_texts c.args.names.now c.args.scope.now) c.in-Empty.pos)

pub statement-returns-in-Expression-clause-ok : goal.statement-returns-in-Expression-clause-ok
statement-returns-in-Expression-clause-ok t c =
    alone_as c.expression_typed.result _ _ c.args.labels.now.items c.args.initial.now.items (with_texts c.args.names.now c.expression_typed.new.scope) (ap (statement (around_of c.args.around) c.args.direct (with_texts c.args.names.now c.args.scope.now)) (expression_tree c.args.s.now c.in-Expression.pos c.in-Expression.e c.in-Expression.is)) (c.expression_typed.ensures.ok (around_of c.args.around) c.args.direct)

pub statement-returns-in-Expression-clause-err : goal.statement-returns-in-Expression-clause-err
statement-returns-in-Expression-clause-err t c =
    told_as c.expression_typed.result _ _ (ap (statement (around_of c.args.around) c.args.direct (with_texts c.args.names.now c.args.scope.now)) (expression_tree c.args.s.now c.in-Expression.pos c.in-Expression.e c.in-Expression.is)) (c.expression_typed.ensures.err (around_of c.args.around) c.args.direct)

pub statement-returns-in-If-clause-ok : goal.statement-returns-in-If-clause-ok
statement-returns-in-If-clause-ok t c =
    unlabelled_as c.if_typed.result _ _ c.args.labels.now.items c.args.initial.now.items c.if_typed.new.initial.items (with_texts c.args.names.now c.if_typed.new.scope) (ap (statement (around_of c.args.around) c.args.direct (with_texts c.args.names.now c.args.scope.now)) (if_tree c.args.s.now c.in-If.pos c.in-If.e c.in-If.a _ c.in-If.is c.deref-in-If.ensures)) (c.if_typed.ensures.ok c.args.direct)

pub statement-returns-in-If-clause-err : goal.statement-returns-in-If-clause-err
statement-returns-in-If-clause-err t c =
    told_as c.if_typed.result _ _ (ap (statement (around_of c.args.around) c.args.direct (with_texts c.args.names.now c.args.scope.now)) (if_tree c.args.s.now c.in-If.pos c.in-If.e c.in-If.a _ c.in-If.is c.deref-in-If.ensures)) (c.if_typed.ensures.err c.args.direct)

pub statement-returns-in-Switch-clause-ok : goal.statement-returns-in-Switch-clause-ok
statement-returns-in-Switch-clause-ok t c =
    unlabelled_as c.switch_typed.result _ _ c.args.labels.now.items c.args.initial.now.items c.switch_typed.new.initial.items (with_texts c.args.names.now c.switch_typed.new.scope) (ap (statement (around_of c.args.around) c.args.direct (with_texts c.args.names.now c.args.scope.now)) (switch_tree c.args.s.now c.in-Switch.pos c.in-Switch.e c.in-Switch.a _ c.in-Switch.is c.deref-in-Switch.ensures)) (c.switch_typed.ensures.ok c.args.direct)

pub statement-returns-in-Switch-clause-err : goal.statement-returns-in-Switch-clause-err
statement-returns-in-Switch-clause-err t c =
    told_as c.switch_typed.result _ _ (ap (statement (around_of c.args.around) c.args.direct (with_texts c.args.names.now c.args.scope.now)) (switch_tree c.args.s.now c.in-Switch.pos c.in-Switch.e c.in-Switch.a _ c.in-Switch.is c.deref-in-Switch.ensures)) (c.switch_typed.ensures.err c.args.direct)

pub statement-returns-in-Case-clause-ok : goal.statement-returns-in-Case-clause-ok
statement-returns-in-Case-clause-ok t c =
    labelled_as c.case_typed.result _ _ c.args.labels.now.items c.case_typed.new.labels.items c.args.initial.now.items c.case_typed.new.initial.items (with_texts c.args.names.now c.case_typed.new.scope) (ap (statement (around_of c.args.around) c.args.direct (with_texts c.args.names.now c.args.scope.now)) (case_tree c.args.s.now c.in-Case.pos c.in-Case.e c.in-Case.a _ c.in-Case.is c.deref-in-Case.ensures)) c.case_typed.ensures.ok

pub statement-returns-in-Case-clause-err : goal.statement-returns-in-Case-clause-err
statement-returns-in-Case-clause-err t c =
    told_as c.case_typed.result _ _ (ap (statement (around_of c.args.around) c.args.direct (with_texts c.args.names.now c.args.scope.now)) (case_tree c.args.s.now c.in-Case.pos c.in-Case.e c.in-Case.a _ c.in-Case.is c.deref-in-Case.ensures)) c.case_typed.ensures.err

pub statement-returns-in-Default-clause-ok : goal.statement-returns-in-Default-clause-ok
statement-returns-in-Default-clause-ok t c =
    labelled_as c.default_typed.result _ _ c.args.labels.now.items c.default_typed.new.labels.items c.args.initial.now.items c.default_typed.new.initial.items (with_texts c.args.names.now c.default_typed.new.scope) (ap (statement (around_of c.args.around) c.args.direct (with_texts c.args.names.now c.args.scope.now)) (default_tree c.args.s.now c.in-Default.pos c.in-Default.a _ c.in-Default.is c.deref-in-Default.ensures)) c.default_typed.ensures.ok

pub statement-returns-in-Default-clause-err : goal.statement-returns-in-Default-clause-err
statement-returns-in-Default-clause-err t c =
    told_as c.default_typed.result _ _ (ap (statement (around_of c.args.around) c.args.direct (with_texts c.args.names.now c.args.scope.now)) (default_tree c.args.s.now c.in-Default.pos c.in-Default.a _ c.in-Default.is c.deref-in-Default.ensures)) c.default_typed.ensures.err

pub statement-returns-in-While-clause-ok : goal.statement-returns-in-While-clause-ok
statement-returns-in-While-clause-ok t c =
    unlabelled_as c.while_typed.result _ _ c.args.labels.now.items c.args.initial.now.items c.while_typed.new.initial.items (with_texts c.args.names.now c.while_typed.new.scope) (ap (statement (around_of c.args.around) c.args.direct (with_texts c.args.names.now c.args.scope.now)) (while_tree c.args.s.now c.in-While.pos c.in-While.e c.in-While.a _ c.in-While.is c.deref-in-While.ensures)) (c.while_typed.ensures.ok c.args.direct)

pub statement-returns-in-While-clause-err : goal.statement-returns-in-While-clause-err
statement-returns-in-While-clause-err t c =
    told_as c.while_typed.result _ _ (ap (statement (around_of c.args.around) c.args.direct (with_texts c.args.names.now c.args.scope.now)) (while_tree c.args.s.now c.in-While.pos c.in-While.e c.in-While.a _ c.in-While.is c.deref-in-While.ensures)) (c.while_typed.ensures.err c.args.direct)

pub statement-returns-in-DoWhile-clause-ok : goal.statement-returns-in-DoWhile-clause-ok
statement-returns-in-DoWhile-clause-ok t c =
    unlabelled_as c.do_while_typed.result _ _ c.args.labels.now.items c.args.initial.now.items c.do_while_typed.new.initial.items (with_texts c.args.names.now c.do_while_typed.new.scope) (ap (statement (around_of c.args.around) c.args.direct (with_texts c.args.names.now c.args.scope.now)) (do_tree c.args.s.now c.in-DoWhile.pos c.in-DoWhile.a c.in-DoWhile.e _ c.in-DoWhile.is c.deref-in-DoWhile.ensures)) (c.do_while_typed.ensures.ok c.args.direct)

pub statement-returns-in-DoWhile-clause-err : goal.statement-returns-in-DoWhile-clause-err
statement-returns-in-DoWhile-clause-err t c =
    told_as c.do_while_typed.result _ _ (ap (statement (around_of c.args.around) c.args.direct (with_texts c.args.names.now c.args.scope.now)) (do_tree c.args.s.now c.in-DoWhile.pos c.in-DoWhile.a c.in-DoWhile.e _ c.in-DoWhile.is c.deref-in-DoWhile.ensures)) (c.do_while_typed.ensures.err c.args.direct)

pub statement-returns-in-For-clause-ok : goal.statement-returns-in-For-clause-ok
statement-returns-in-For-clause-ok t c =
    unlabelled_as c.for_typed.result _ _ c.args.labels.now.items c.args.initial.now.items c.for_typed.new.initial.items (with_texts c.args.names.now c.for_typed.new.scope) (ap (statement (around_of c.args.around) c.args.direct (with_texts c.args.names.now c.args.scope.now)) (for_tree c.args.s.now c.in-For.pos c.in-For.head c.in-For.a _ _ _ _ c.in-For.is c.deref-in-For-2.ensures c.deref-in-For-3.ensures c.deref-in-For-4.ensures c.deref-in-For.ensures)) (c.for_typed.ensures.ok c.args.direct)

pub statement-returns-in-For-clause-err : goal.statement-returns-in-For-clause-err
statement-returns-in-For-clause-err t c =
    told_as c.for_typed.result _ _ (ap (statement (around_of c.args.around) c.args.direct (with_texts c.args.names.now c.args.scope.now)) (for_tree c.args.s.now c.in-For.pos c.in-For.head c.in-For.a _ _ _ _ c.in-For.is c.deref-in-For-2.ensures c.deref-in-For-3.ensures c.deref-in-For-4.ensures c.deref-in-For.ensures)) (c.for_typed.ensures.err c.args.direct)

pub statement-returns-in-Break-clause-ok : goal.statement-returns-in-Break-clause-ok
statement-returns-in-Break-clause-ok t c =
    alone_as c.break_typed.result _ _ c.args.labels.now.items c.args.initial.now.items (with_texts c.args.names.now c.args.scope.now) (ap (statement (around_of c.args.around) c.args.direct (with_texts c.args.names.now c.args.scope.now)) (break_tree c.args.s.now c.in-Break.pos c.in-Break.is)) (c.break_typed.ensures.ok c.args.direct (with_texts c.args.names.now c.args.scope.now))

pub statement-returns-in-Break-clause-err : goal.statement-returns-in-Break-clause-err
statement-returns-in-Break-clause-err t c =
    told_as c.break_typed.result _ _ (ap (statement (around_of c.args.around) c.args.direct (with_texts c.args.names.now c.args.scope.now)) (break_tree c.args.s.now c.in-Break.pos c.in-Break.is)) (c.break_typed.ensures.err c.args.direct (with_texts c.args.names.now c.args.scope.now))

pub statement-returns-in-Continue-clause-ok : goal.statement-returns-in-Continue-clause-ok
statement-returns-in-Continue-clause-ok t c =
    alone_as c.continue_typed.result _ _ c.args.labels.now.items c.args.initial.now.items (with_texts c.args.names.now c.args.scope.now) (ap (statement (around_of c.args.around) c.args.direct (with_texts c.args.names.now c.args.scope.now)) (continue_tree c.args.s.now c.in-Continue.pos c.in-Continue.is)) (c.continue_typed.ensures.ok c.args.direct (with_texts c.args.names.now c.args.scope.now))

pub statement-returns-in-Continue-clause-err : goal.statement-returns-in-Continue-clause-err
statement-returns-in-Continue-clause-err t c =
    told_as c.continue_typed.result _ _ (ap (statement (around_of c.args.around) c.args.direct (with_texts c.args.names.now c.args.scope.now)) (continue_tree c.args.s.now c.in-Continue.pos c.in-Continue.is)) (c.continue_typed.ensures.err c.args.direct (with_texts c.args.names.now c.args.scope.now))

pub statement-returns-in-Return-clause-ok : goal.statement-returns-in-Return-clause-ok
statement-returns-in-Return-clause-ok t c =
    alone_as c.return_typed.result _ _ c.args.labels.now.items c.args.initial.now.items (with_texts c.args.names.now c.return_typed.new.scope) (ap (statement (around_of c.args.around) c.args.direct (with_texts c.args.names.now c.args.scope.now)) (return_tree c.args.s.now c.in-Return.pos c.in-Return.e c.in-Return.is)) (c.return_typed.ensures.ok c.args.direct)

pub statement-returns-in-Return-clause-err : goal.statement-returns-in-Return-clause-err
statement-returns-in-Return-clause-err t c =
    told_as c.return_typed.result _ _ (ap (statement (around_of c.args.around) c.args.direct (with_texts c.args.names.now c.args.scope.now)) (return_tree c.args.s.now c.in-Return.pos c.in-Return.e c.in-Return.is)) (c.return_typed.ensures.err c.args.direct)

pub statement_item-returns-in-Err-clause-err : goal.statement_item-returns-in-Err-clause-err
statement_item-returns-in-Err-clause-err t c =
    item_tells (around_of c.args.around) c.args.direct (with_texts c.args.names.now c.args.scope.now) (stmt_of c.args.s.now) c.in-Err.refusal c.in-Err.ensures.err

pub statement_item-returns-in-Ok-push_labelled-clause-ok : goal.statement_item-returns-in-Ok-push_labelled-clause-ok
statement_item-returns-in-Ok-push_labelled-clause-ok t c =
    item_fine (around_of c.args.around) c.args.direct (with_texts c.args.names.now c.args.scope.now) (with_texts c.args.names.now c.statement.new.scope) (stmt_of c.args.s.now) c.new-own.result.items c.statement.new.labels.items c.deref.result.now c.args.labels.now.items c.push_labelled.new.labels.items c.args.initial.now.items c.statement.new.initial.items c.args.all.now.items c.push_labelled.new.all.items c.in-Ok.x c.new-own.ensures.items c.deref.ensures.value c.in-Ok.ensures.ok c.in-Ok-push_labelled.ensures.ok.0 c.in-Ok-push_labelled.ensures.ok.1

pub switch_block-returns-in-Err-clause-err : goal.switch_block-returns-in-Err-clause-err
switch_block-returns-in-Err-clause-err t c =
    switch_pieces (around_of c.args.around) (around_of c.in_a_switch.result) c.args.names.now c.args.scope.now c.args.worth c.promote-ty.result (pieces_of (map piece_of c.args.items.now)) c.in-Err.refusal c.in_a_switch.ensures c.promote-ty.ensures c.in-Err.ensures.err

pub switch_block-returns-in-Ok-no_label_twice-clause-ok : goal.switch_block-returns-in-Ok-no_label_twice-clause-ok
switch_block-returns-in-Ok-no_label_twice-clause-ok t c =
    switch_fine (around_of c.args.around) (around_of c.in_a_switch.result) c.args.names.now c.args.scope.now c.scoped_items.new.scope c.args.pos c.args.worth c.promote-ty.result (pieces_of (map piece_of c.args.items.now)) c.object_count-first.result c.objects_since-count.result c.new-labels.result.items c.scoped_items.new.labels.items c.deref.result.now c.args.initial.now.items c.scoped_items.new.initial.items c.in-Ok.all c.deref.ensures.value c.in_a_switch.ensures c.promote-ty.ensures c.new-labels.ensures.items c.object_count-first.ensures c.objects_since-count.ensures c.in-Ok.ensures.ok c.in-Ok-no_label_twice.ensures.ok

pub switch_block-returns-in-Err-no_label_twice-clause-err : goal.switch_block-returns-in-Err-no_label_twice-clause-err
switch_block-returns-in-Err-no_label_twice-clause-err t c =
    switch_twice (around_of c.args.around) (around_of c.in_a_switch.result) c.args.names.now c.args.scope.now c.scoped_items.new.scope c.args.worth c.promote-ty.result (pieces_of (map piece_of c.args.items.now)) c.new-labels.result.items c.scoped_items.new.labels.items c.deref.result.now c.args.initial.now.items c.scoped_items.new.initial.items c.in-Ok.all.items c.in-Err-no_label_twice.refusal c.deref.ensures.value c.in_a_switch.ensures c.promote-ty.ensures c.new-labels.ensures.items c.in-Ok.ensures.ok c.in-Err-no_label_twice.ensures.err

pub switch_typed-returns-in-Err-clause-err : goal.switch_typed-returns-in-Err-clause-err
switch_typed-returns-in-Err-clause-err t c =
    λ d. switch_left (around_of c.args.around) d (with_texts c.args.names.now c.args.scope.now) c.args.pos (tree_of c.args.e.now) (stmt_of c.args.body.now) c.in-Err.refusal c.in-Err.ensures.err

pub if_head-returns-in-Err-clause-err : goal.if_head-returns-in-Err-clause-err
if_head-returns-in-Err-clause-err t c =
    λ d b. if_else_left (around_of c.args.around) d c.args.names.now c.args.scope.now c.args.pos (tree_of c.args.e.now) (stmt_of c.args.a.now) b c.in-Err.refusal c.in-Err.ensures.err

pub if_head-returns-in-Err-inner_statement-clause-err : goal.if_head-returns-in-Err-inner_statement-clause-err
if_head-returns-in-Err-inner_statement-clause-err t c =
    λ d b. if_else_first (around_of c.args.around) d c.args.names.now c.args.scope.now c.worth_past.new.scope c.args.pos (tree_of c.args.e.now) (stmt_of c.args.a.now) b c.in-Err-inner_statement.refusal c.in-Ok.ensures.ok.1 c.in-Err-inner_statement.ensures.err

pub if_head-returns-in-Ok-inner_statement-clause-ok : goal.if_head-returns-in-Ok-inner_statement-clause-ok
if_head-returns-in-Ok-inner_statement-clause-ok t c =
    (c.in-Ok.ensures.ok.0, head_inner (around_of c.args.around) c.args.names.now c.args.scope.now c.worth_past.new.scope c.inner_statement.new.scope (tree_of c.args.e.now) (stmt_of c.args.a.now) c.args.initial.now.items c.inner_statement.new.initial.items c.in-Ok-inner_statement.a.value c.in-Ok.ensures.ok.1 c.in-Ok-inner_statement.ensures.ok)

pub statement-returns-in-Err-clause-err : goal.statement-returns-in-Err-clause-err
statement-returns-in-Err-clause-err t c =
    subst (Tells c.in-Err.refusal) (sym (ap (statement (around_of c.args.around) c.args.direct (with_texts c.args.names.now c.args.scope.now)) (if_else_tree c.args.s.now c.in-IfElse.pos c.in-IfElse.e c.in-IfElse.a c.in-IfElse.b _ _ c.in-IfElse.is c.deref-in-IfElse.ensures refl))) (c.in-Err.ensures.err c.args.direct (stmt_of c.in-IfElse.b.value))

pub statement-returns-in-Ok-inner_statement-clause-ok : goal.statement-returns-in-Ok-inner_statement-clause-ok
statement-returns-in-Ok-inner_statement-clause-ok t c =
    labelled_as (Ok (S.IfElse c.in-IfElse.pos c.in-Ok.head.test.value c.in-Ok.head.a c.in-Ok-inner_statement.b)) _ _ c.args.labels.now.items c.args.labels.now.items c.args.initial.now.items c.inner_statement.new.initial.items (with_texts c.args.names.now c.inner_statement.new.scope) (ap (statement (around_of c.args.around) c.args.direct (with_texts c.args.names.now c.args.scope.now)) (if_else_tree c.args.s.now c.in-IfElse.pos c.in-IfElse.e c.in-IfElse.a c.in-IfElse.b _ _ c.in-IfElse.is c.deref-in-IfElse.ensures c.deref-in-IfElse-2.ensures)) (else_labelled (around_of c.args.around) c.args.direct c.args.names.now c.args.scope.now c.if_head.new.scope c.inner_statement.new.scope c.in-IfElse.pos (tree_of c.in-IfElse.e) (stmt_of c.deref-in-IfElse.result.now) (stmt_of c.deref-in-IfElse-2.result.now) c.in-Ok.head.test c.args.labels.now.items c.args.initial.now.items c.if_head.new.initial.items c.inner_statement.new.initial.items c.in-Ok.head.a c.in-Ok-inner_statement.b c.in-Ok.ensures.ok.0 c.in-Ok.ensures.ok.1 c.in-Ok-inner_statement.ensures.ok)

pub statement-returns-in-Err-inner_statement-clause-err : goal.statement-returns-in-Err-inner_statement-clause-err
statement-returns-in-Err-inner_statement-clause-err t c =
    subst (Tells c.in-Err-inner_statement.refusal) (sym (ap (statement (around_of c.args.around) c.args.direct (with_texts c.args.names.now c.args.scope.now)) (if_else_tree c.args.s.now c.in-IfElse.pos c.in-IfElse.e c.in-IfElse.a c.in-IfElse.b _ _ c.in-IfElse.is c.deref-in-IfElse.ensures c.deref-in-IfElse-2.ensures)))
    (if_else_second (around_of c.args.around) c.args.direct c.args.names.now c.args.scope.now (past c.args.scope.now (tree_of c.in-IfElse.e)) c.if_head.new.scope c.in-IfElse.pos (tree_of c.in-IfElse.e) (stmt_of c.deref-in-IfElse.result.now) (stmt_of c.deref-in-IfElse-2.result.now) c.in-Ok.head.test c.args.initial.now.items c.if_head.new.initial.items c.in-Ok.head.a c.in-Err-inner_statement.refusal c.in-Ok.ensures.ok.0 refl c.in-Ok.ensures.ok.1 c.in-Err-inner_statement.ensures.err)

pub switch_typed-returns-in-Block-clause-ok : goal.switch_typed-returns-in-Block-clause-ok
switch_typed-returns-in-Block-clause-ok t c =
    λ d. switch_ok c.switch_block.result (around_of c.args.around) d c.args.names.now c.args.scope.now c.worth_past.new.scope c.switch_block.new.scope c.args.pos (tree_of c.args.e.now) (stmt_of c.args.body.now) (pieces_of (map piece_of c.deref.result.now)) c.in-Ok.worth c.args.initial.now.items c.switch_block.new.initial.items (ap block_items (block_tree c.args.body.now c.in-Block.field-0 c.in-Block.items _ c.in-Block.is c.deref.ensures.value)) c.in-Ok.ensures.ok.0 c.in-Ok.ensures.ok.1 c.switch_block.ensures.ok

pub switch_typed-returns-in-Block-clause-err : goal.switch_typed-returns-in-Block-clause-err
switch_typed-returns-in-Block-clause-err t c =
    λ d. switch_err c.switch_block.result (around_of c.args.around) d c.args.names.now c.args.scope.now c.worth_past.new.scope c.args.pos (tree_of c.args.e.now) (stmt_of c.args.body.now) (pieces_of (map piece_of c.deref.result.now)) c.in-Ok.worth (ap block_items (block_tree c.args.body.now c.in-Block.field-0 c.in-Block.items _ c.in-Block.is c.deref.ensures.value)) c.in-Ok.ensures.ok.0 c.in-Ok.ensures.ok.1 c.switch_block.ensures.err

pub switch_typed-returns-in-Empty-clause-err : goal.switch_typed-returns-in-Empty-clause-err
switch_typed-returns-in-Empty-clause-err t c =
    λ d. switch_no_block (around_of c.args.around) d (with_texts c.args.names.now c.args.scope.now) c.args.pos (tree_of c.args.e.now) (stmt_of c.args.body.now) c.broken-left_out.result (ap block_items (empty_tree c.args.body.now c.in-Empty.field-0 c.in-Empty.is)) (subst (λ r. IsOf r (breaks {A = Done} code.LeftOutLabel c.args.pos)) (sym c.broken-left_out.ensures) (refl, refl))

pub switch_typed-returns-in-Expression-clause-err : goal.switch_typed-returns-in-Expression-clause-err
switch_typed-returns-in-Expression-clause-err t c =
    λ d. switch_no_block (around_of c.args.around) d (with_texts c.args.names.now c.args.scope.now) c.args.pos (tree_of c.args.e.now) (stmt_of c.args.body.now) c.broken-left_out.result (ap block_items (expression_tree c.args.body.now c.in-Expression.field-0 c.in-Expression.field-1 c.in-Expression.is)) (subst (λ r. IsOf r (breaks {A = Done} code.LeftOutLabel c.args.pos)) (sym c.broken-left_out.ensures) (refl, refl))

pub switch_typed-returns-in-If-clause-err : goal.switch_typed-returns-in-If-clause-err
switch_typed-returns-in-If-clause-err t c =
    λ d. switch_no_block (around_of c.args.around) d (with_texts c.args.names.now c.args.scope.now) c.args.pos (tree_of c.args.e.now) (stmt_of c.args.body.now) c.broken-left_out.result (ap block_items (if_tree c.args.body.now c.in-If.field-0 c.in-If.field-1 c.in-If.field-2 c.in-If.field-2.value c.in-If.is refl)) (subst (λ r. IsOf r (breaks {A = Done} code.LeftOutLabel c.args.pos)) (sym c.broken-left_out.ensures) (refl, refl))

pub switch_typed-returns-in-IfElse-clause-err : goal.switch_typed-returns-in-IfElse-clause-err
switch_typed-returns-in-IfElse-clause-err t c =
    λ d. switch_no_block (around_of c.args.around) d (with_texts c.args.names.now c.args.scope.now) c.args.pos (tree_of c.args.e.now) (stmt_of c.args.body.now) c.broken-left_out.result (ap block_items (if_else_tree c.args.body.now c.in-IfElse.field-0 c.in-IfElse.field-1 c.in-IfElse.field-2 c.in-IfElse.field-3 c.in-IfElse.field-2.value c.in-IfElse.field-3.value c.in-IfElse.is refl refl)) (subst (λ r. IsOf r (breaks {A = Done} code.LeftOutLabel c.args.pos)) (sym c.broken-left_out.ensures) (refl, refl))

pub switch_typed-returns-in-Switch-clause-err : goal.switch_typed-returns-in-Switch-clause-err
switch_typed-returns-in-Switch-clause-err t c =
    λ d. switch_no_block (around_of c.args.around) d (with_texts c.args.names.now c.args.scope.now) c.args.pos (tree_of c.args.e.now) (stmt_of c.args.body.now) c.broken-left_out.result (ap block_items (switch_tree c.args.body.now c.in-Switch.field-0 c.in-Switch.field-1 c.in-Switch.field-2 c.in-Switch.field-2.value c.in-Switch.is refl)) (subst (λ r. IsOf r (breaks {A = Done} code.LeftOutLabel c.args.pos)) (sym c.broken-left_out.ensures) (refl, refl))

pub switch_typed-returns-in-Case-clause-err : goal.switch_typed-returns-in-Case-clause-err
switch_typed-returns-in-Case-clause-err t c =
    λ d. switch_no_block (around_of c.args.around) d (with_texts c.args.names.now c.args.scope.now) c.args.pos (tree_of c.args.e.now) (stmt_of c.args.body.now) c.broken-left_out.result (ap block_items (case_tree c.args.body.now c.in-Case.field-0 c.in-Case.field-1 c.in-Case.field-2 c.in-Case.field-2.value c.in-Case.is refl)) (subst (λ r. IsOf r (breaks {A = Done} code.LeftOutLabel c.args.pos)) (sym c.broken-left_out.ensures) (refl, refl))

pub switch_typed-returns-in-Default-clause-err : goal.switch_typed-returns-in-Default-clause-err
switch_typed-returns-in-Default-clause-err t c =
    λ d. switch_no_block (around_of c.args.around) d (with_texts c.args.names.now c.args.scope.now) c.args.pos (tree_of c.args.e.now) (stmt_of c.args.body.now) c.broken-left_out.result (ap block_items (default_tree c.args.body.now c.in-Default.field-0 c.in-Default.field-1 c.in-Default.field-1.value c.in-Default.is refl)) (subst (λ r. IsOf r (breaks {A = Done} code.LeftOutLabel c.args.pos)) (sym c.broken-left_out.ensures) (refl, refl))

pub switch_typed-returns-in-While-clause-err : goal.switch_typed-returns-in-While-clause-err
switch_typed-returns-in-While-clause-err t c =
    λ d. switch_no_block (around_of c.args.around) d (with_texts c.args.names.now c.args.scope.now) c.args.pos (tree_of c.args.e.now) (stmt_of c.args.body.now) c.broken-left_out.result (ap block_items (while_tree c.args.body.now c.in-While.field-0 c.in-While.field-1 c.in-While.field-2 c.in-While.field-2.value c.in-While.is refl)) (subst (λ r. IsOf r (breaks {A = Done} code.LeftOutLabel c.args.pos)) (sym c.broken-left_out.ensures) (refl, refl))

pub switch_typed-returns-in-DoWhile-clause-err : goal.switch_typed-returns-in-DoWhile-clause-err
switch_typed-returns-in-DoWhile-clause-err t c =
    λ d. switch_no_block (around_of c.args.around) d (with_texts c.args.names.now c.args.scope.now) c.args.pos (tree_of c.args.e.now) (stmt_of c.args.body.now) c.broken-left_out.result (ap block_items (do_tree c.args.body.now c.in-DoWhile.field-0 c.in-DoWhile.field-1 c.in-DoWhile.field-2 c.in-DoWhile.field-1.value c.in-DoWhile.is refl)) (subst (λ r. IsOf r (breaks {A = Done} code.LeftOutLabel c.args.pos)) (sym c.broken-left_out.ensures) (refl, refl))

pub switch_typed-returns-in-For-clause-err : goal.switch_typed-returns-in-For-clause-err
switch_typed-returns-in-For-clause-err t c =
    λ d. switch_no_block (around_of c.args.around) d (with_texts c.args.names.now c.args.scope.now) c.args.pos (tree_of c.args.e.now) (stmt_of c.args.body.now) c.broken-left_out.result (ap block_items (for_tree c.args.body.now c.in-For.field-0 c.in-For.field-1 c.in-For.field-2 c.in-For.field-1.value c.in-For.field-1.value c.in-For.field-1.value c.in-For.field-2.value c.in-For.is refl refl refl refl)) (subst (λ r. IsOf r (breaks {A = Done} code.LeftOutLabel c.args.pos)) (sym c.broken-left_out.ensures) (refl, refl))

pub switch_typed-returns-in-Break-clause-err : goal.switch_typed-returns-in-Break-clause-err
switch_typed-returns-in-Break-clause-err t c =
    λ d. switch_no_block (around_of c.args.around) d (with_texts c.args.names.now c.args.scope.now) c.args.pos (tree_of c.args.e.now) (stmt_of c.args.body.now) c.broken-left_out.result (ap block_items (break_tree c.args.body.now c.in-Break.field-0 c.in-Break.is)) (subst (λ r. IsOf r (breaks {A = Done} code.LeftOutLabel c.args.pos)) (sym c.broken-left_out.ensures) (refl, refl))

pub switch_typed-returns-in-Continue-clause-err : goal.switch_typed-returns-in-Continue-clause-err
switch_typed-returns-in-Continue-clause-err t c =
    λ d. switch_no_block (around_of c.args.around) d (with_texts c.args.names.now c.args.scope.now) c.args.pos (tree_of c.args.e.now) (stmt_of c.args.body.now) c.broken-left_out.result (ap block_items (continue_tree c.args.body.now c.in-Continue.field-0 c.in-Continue.is)) (subst (λ r. IsOf r (breaks {A = Done} code.LeftOutLabel c.args.pos)) (sym c.broken-left_out.ensures) (refl, refl))

pub switch_typed-returns-in-Return-clause-err : goal.switch_typed-returns-in-Return-clause-err
switch_typed-returns-in-Return-clause-err t c =
    λ d. switch_no_block (around_of c.args.around) d (with_texts c.args.names.now c.args.scope.now) c.args.pos (tree_of c.args.e.now) (stmt_of c.args.body.now) c.broken-left_out.result (ap block_items (return_tree c.args.body.now c.in-Return.field-0 c.in-Return.field-1 c.in-Return.is)) (subst (λ r. IsOf r (breaks {A = Done} code.LeftOutLabel c.args.pos)) (sym c.broken-left_out.ensures) (refl, refl))
