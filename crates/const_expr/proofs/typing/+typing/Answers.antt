use Rattle.std.proofs.Common.{arith}
use Rattle.tree.specs.View.{tree_of, type_of}
use Rattle.typing_expressions.specs.Forms.{checked_of, worth_of}
use Rattle.const_expr.specs.Typings.{option_named}
use Rattle.const_expr.specs.Operands.{operands_of}
use Rattle.const_expr.proofs.Parts.{operands_fine, operands_right, pair_rule, cast_rule, cast_right, conditional_rule, conditional_test, conditional_arms}
use Rattle.typing_spec.specs.Operators.{assigning}
use Rattle.typing_spec.specs.Expressions as typed
use Rattle.const_expr.proofs.Trees.{gives, tells, string_rule, type_base}
use Rattle.const_expr.proofs.SizesRead.{read_none, read_next, read_stops, read_all, read_count}
use Rattle.const_expr.proofs.Given as given
use Rattle.const_expr.proofs.Work.{item_less}
use Rattle.const_expr.proofs.typing.+typing.Goals as goal

pub sizes-loop-e-init : goal.sizes-loop-e-init
sizes-loop-e-init t c = read_none c.args.names.now c.args.scope.now c.args.pos c.args.literals.now c.args.es.now c.new-all.result.items c.new-all.ensures.items

pub sizes-loop-e-preserved : goal.sizes-loop-e-preserved
sizes-loop-e-preserved t c =
    read_next c.args.names.now c.args.scope.now c.args.pos c.args.literals.now c.loop-e.literals c.size.new.literals c.args.es.now c.loop-e.e-index c.e-item.result c.loop-e.all.items c.push.new.self.items c.in-Ok.n c.loop-e-test.true
    c.e-item.is c.loop-e.invariant c.in-Ok.ensures.ok c.in-Ok.ensures.count c.in-Ok-push.ensures.items

pub sizes-returns-in-Err-clause-err : goal.sizes-returns-in-Err-clause-err
sizes-returns-in-Err-clause-err t c =
    read_stops c.args.names.now c.args.scope.now c.args.pos c.args.literals.now c.loop-e.literals c.args.es.now c.loop-e.e-index c.e-item.result c.loop-e.all.items c.in-Err.refusal c.loop-e-test.true c.e-item.is c.loop-e.invariant
    c.in-Err.ensures.err

pub sizes-returns-clause-ok : goal.sizes-returns-clause-ok
sizes-returns-clause-ok t c =
    read_all c.args.names.now c.args.scope.now c.args.pos c.args.literals.now c.loop-e.literals c.args.es.now c.loop-e.e-index c.loop-e.all.items (omega (arith, c.loop-e-test.false)) c.loop-e.invariant

pub sizes-returns-clause-count : goal.sizes-returns-clause-count
sizes-returns-clause-count t c =
    read_count c.args.names.now c.args.scope.now c.args.pos c.args.literals.now c.loop-e.literals c.args.es.now c.loop-e.e-index c.loop-e.all.items (omega (arith, c.loop-e-test.false)) c.loop-e.invariant

pub arguments-loop-e-init : goal.arguments-loop-e-init
arguments-loop-e-init t c = given.read_none c.args.names.now c.args.scope.now c.args.pos c.args.literals.now c.args.parameters.now c.args.es.now c.new-all.result.items c.new-all.ensures.items

pub arguments-loop-e-preserved : goal.arguments-loop-e-preserved
arguments-loop-e-preserved t c =
    given.read_next c.args.names.now c.args.scope.now c.args.pos c.args.literals.now c.loop-e.literals c.expression.new.literals c.args.parameters.now c.args.es.now c.loop-e.e-index c.e-item.result c.loop-e.all.items c.push.new.self.items c.in-Ok.x
    c.loop-e-test.true c.e-item.is (omega (arith, c.if-len-parameters.false, c.len.ensures, c.loop-e.all.ok.0)) c.loop-e.invariant c.in-Ok.ensures.ok c.in-Ok.ensures.count c.in-Ok-push.ensures.items

pub arguments-returns-in-Err-clause-err : goal.arguments-returns-in-Err-clause-err
arguments-returns-in-Err-clause-err t c =
    given.read_stops c.args.names.now c.args.scope.now c.args.pos c.args.literals.now c.loop-e.literals c.args.parameters.now c.args.es.now c.loop-e.e-index c.e-item.result c.loop-e.all.items c.in-Err.refusal c.loop-e-test.true c.e-item.is
    (omega (arith, c.if-len-parameters.false, c.len.ensures, c.loop-e.all.ok.0)) c.loop-e.invariant c.in-Err.ensures.err

pub arguments-returns-clause-ok : goal.arguments-returns-clause-ok
arguments-returns-clause-ok t c =
    given.read_all c.args.names.now c.args.scope.now c.args.pos c.args.literals.now c.loop-e.literals c.args.parameters.now c.args.es.now c.loop-e.e-index c.loop-e.all.items (omega (arith, c.loop-e-test.false)) c.loop-e.invariant

pub arguments-returns-clause-count : goal.arguments-returns-clause-count
arguments-returns-clause-count t c =
    given.read_count c.args.names.now c.args.scope.now c.args.pos c.args.literals.now c.loop-e.literals c.args.parameters.now c.args.es.now c.loop-e.e-index c.loop-e.all.items (omega (arith, c.loop-e-test.false)) c.loop-e.invariant

pub cast_typed-returns-in-Ok-expression-clause-ok : goal.cast_typed-returns-in-Ok-expression-clause-ok
cast_typed-returns-in-Ok-expression-clause-ok t c =
    gives c.cast_to.result _ _
    (cast_rule c.args.names.now c.args.literals.now c.type_named.new.literals c.args.scope.now c.args.pos (type_of c.args.name.now) (tree_of c.args.a.now) (option_named c.in-Ok.named) (checked_of c.in-Ok-expression.a) c.in-Ok.ensures.ok
    c.in-Ok.ensures.count c.in-Ok-expression.ensures.ok)
    c.cast_to.ensures.ok

pub cast_typed-returns-in-Ok-expression-clause-err : goal.cast_typed-returns-in-Ok-expression-clause-err
cast_typed-returns-in-Ok-expression-clause-err t c =
    tells c.cast_to.result _ _
    (cast_rule c.args.names.now c.args.literals.now c.type_named.new.literals c.args.scope.now c.args.pos (type_of c.args.name.now) (tree_of c.args.a.now) (option_named c.in-Ok.named) (checked_of c.in-Ok-expression.a) c.in-Ok.ensures.ok
    c.in-Ok.ensures.count c.in-Ok-expression.ensures.ok)
    c.cast_to.ensures.err

pub cast_typed-returns-in-Err-expression-clause-err : goal.cast_typed-returns-in-Err-expression-clause-err
cast_typed-returns-in-Err-expression-clause-err t c =
    cast_right c.args.names.now c.args.literals.now c.type_named.new.literals c.args.scope.now c.args.pos (type_of c.args.name.now) (tree_of c.args.a.now) c.in-Err-expression.refusal c.in-Ok.ensures.count c.in-Err-expression.ensures.err

pub conditional_typed-returns-in-Err-valued-clause-err : goal.conditional_typed-returns-in-Err-valued-clause-err
conditional_typed-returns-in-Err-valued-clause-err t c =
    conditional_test c.args.names.now c.args.literals.now c.args.scope.now c.args.pos (tree_of c.args.test.now) (tree_of c.args.a.now) (tree_of c.args.b.now) (checked_of c.in-Ok.test) c.in-Err-valued.refusal c.in-Ok.ensures.ok
    c.in-Err-valued.ensures.err

pub conditional_typed-returns-in-Ok-two_operands-clause-ok : goal.conditional_typed-returns-in-Ok-two_operands-clause-ok
conditional_typed-returns-in-Ok-two_operands-clause-ok t c =
    gives c.chosen.result _ _
    (conditional_rule c.args.names.now c.args.literals.now c.expression.new.literals c.args.scope.now c.args.pos (tree_of c.args.test.now) (tree_of c.args.a.now) (tree_of c.args.b.now) (checked_of c.in-Ok.test)
    (worth_of c.in-Ok-valued.test) (operands_of c.in-Ok-two_operands.x) c.in-Ok.ensures.ok c.in-Ok-valued.ensures.ok c.in-Ok.ensures.count c.in-Ok-two_operands.ensures.ok)
    c.chosen.ensures.ok

pub conditional_typed-returns-in-Ok-two_operands-clause-err : goal.conditional_typed-returns-in-Ok-two_operands-clause-err
conditional_typed-returns-in-Ok-two_operands-clause-err t c =
    tells c.chosen.result _ _
    (conditional_rule c.args.names.now c.args.literals.now c.expression.new.literals c.args.scope.now c.args.pos (tree_of c.args.test.now) (tree_of c.args.a.now) (tree_of c.args.b.now) (checked_of c.in-Ok.test)
    (worth_of c.in-Ok-valued.test) (operands_of c.in-Ok-two_operands.x) c.in-Ok.ensures.ok c.in-Ok-valued.ensures.ok c.in-Ok.ensures.count c.in-Ok-two_operands.ensures.ok)
    c.chosen.ensures.err

pub conditional_typed-returns-in-Err-two_operands-clause-err : goal.conditional_typed-returns-in-Err-two_operands-clause-err
conditional_typed-returns-in-Err-two_operands-clause-err t c =
    conditional_arms c.args.names.now c.args.literals.now c.expression.new.literals c.args.scope.now c.args.pos (tree_of c.args.test.now) (tree_of c.args.a.now) (tree_of c.args.b.now) c.in-Err-two_operands.refusal
    c.in-Ok.ensures.count c.in-Err-two_operands.ensures.err

pub expression-returns-in-StringLiteral-clause-ok : goal.expression-returns-in-StringLiteral-clause-ok
expression-returns-in-StringLiteral-clause-ok t c =
    gives c.next_literal.result _ _ (string_rule c.args.names.now c.args.literals.now c.args.scope.now c.args.e.now c.in-StringLiteral.pos c.in-StringLiteral.name c.in-StringLiteral.is) (c.next_literal.ensures.ok c.args.scope.now)

pub expression-returns-in-StringLiteral-clause-err : goal.expression-returns-in-StringLiteral-clause-err
expression-returns-in-StringLiteral-clause-err t c =
    tells c.next_literal.result _ _ (string_rule c.args.names.now c.args.literals.now c.args.scope.now c.args.e.now c.in-StringLiteral.pos c.in-StringLiteral.name c.in-StringLiteral.is) (c.next_literal.ensures.err c.args.scope.now)

pub two_operands-returns-in-Ok-expression-clause-ok : goal.two_operands-returns-in-Ok-expression-clause-ok
two_operands-returns-in-Ok-expression-clause-ok t c =
    operands_fine c.args.names.now c.args.literals.now c.expression.new.literals c.args.scope.now (tree_of c.args.a.now) (tree_of c.args.b.now) (checked_of c.in-Ok.first) (checked_of c.in-Ok-expression.second) c.in-Ok.ensures.ok
    c.in-Ok.ensures.count c.in-Ok-expression.ensures.ok

pub two_operands-returns-clause-err : goal.two_operands-returns-clause-err
two_operands-returns-clause-err t c =
    operands_right c.args.names.now c.args.literals.now c.expression.new.literals c.args.scope.now (tree_of c.args.a.now) (tree_of c.args.b.now) c.in-Err-expression.refusal c.in-Ok.ensures.count c.in-Err-expression.ensures.err

pub type_named-returns-in-Err-clause-err : goal.type_named-returns-in-Err-clause-err
type_named-returns-in-Err-clause-err t c = type_base c.args.names.now c.args.literals.now c.args.scope.now c.args.name.now c.in-Err.refusal c.in-Err.ensures.err

pub arguments-returns-then-len-parameters-clause-err : goal.arguments-returns-then-len-parameters-clause-err
arguments-returns-then-len-parameters-clause-err t c =
    given.read_too_many c.args.names.now c.args.scope.now c.args.pos c.args.literals.now c.loop-e.literals c.args.parameters.now c.args.es.now c.loop-e.e-index c.e-item.result c.loop-e.all.items c.broken.result c.loop-e-test.true c.e-item.is
    (omega (arith, c.if-len-parameters.true, c.len.ensures, c.loop-e.all.ok.0)) c.loop-e.invariant c.broken.ensures

pub subscript_typed-returns-in-Ok-clause-ok : goal.subscript_typed-returns-in-Ok-clause-ok
subscript_typed-returns-in-Ok-clause-ok t c =
    gives c.subscripted.result _ _ (pair_rule c.args.names.now c.args.literals.now c.args.scope.now (tree_of c.args.a.now) (tree_of c.args.b.now) (operands_of c.in-Ok.x) (typed.subscripted c.args.pos) c.in-Ok.ensures.ok) c.subscripted.ensures.ok

pub subscript_typed-returns-in-Ok-clause-err : goal.subscript_typed-returns-in-Ok-clause-err
subscript_typed-returns-in-Ok-clause-err t c =
    tells c.subscripted.result _ _ (pair_rule c.args.names.now c.args.literals.now c.args.scope.now (tree_of c.args.a.now) (tree_of c.args.b.now) (operands_of c.in-Ok.x) (typed.subscripted c.args.pos) c.in-Ok.ensures.ok) c.subscripted.ensures.err

pub binary_typed-returns-in-Ok-clause-ok : goal.binary_typed-returns-in-Ok-clause-ok
binary_typed-returns-in-Ok-clause-ok t c =
    gives c.operated.result _ _ (pair_rule c.args.names.now c.args.literals.now c.args.scope.now (tree_of c.args.a.now) (tree_of c.args.b.now) (operands_of c.in-Ok.x) (typed.operated c.args.pos c.args.op) c.in-Ok.ensures.ok) c.operated.ensures.ok

pub binary_typed-returns-in-Ok-clause-err : goal.binary_typed-returns-in-Ok-clause-err
binary_typed-returns-in-Ok-clause-err t c =
    tells c.operated.result _ _ (pair_rule c.args.names.now c.args.literals.now c.args.scope.now (tree_of c.args.a.now) (tree_of c.args.b.now) (operands_of c.in-Ok.x) (typed.operated c.args.pos c.args.op) c.in-Ok.ensures.ok) c.operated.ensures.err

pub assign_typed-returns-in-Ok-clause-ok : goal.assign_typed-returns-in-Ok-clause-ok
assign_typed-returns-in-Ok-clause-ok t c =
    gives c.assigned.result _ _ (pair_rule c.args.names.now c.args.literals.now c.args.scope.now (tree_of c.args.a.now) (tree_of c.args.b.now) (operands_of c.in-Ok.x) (typed.assignment c.args.pos (assigning c.args.op)) c.in-Ok.ensures.ok) c.assigned.ensures.ok

pub assign_typed-returns-in-Ok-clause-err : goal.assign_typed-returns-in-Ok-clause-err
assign_typed-returns-in-Ok-clause-err t c =
    tells c.assigned.result _ _ (pair_rule c.args.names.now c.args.literals.now c.args.scope.now (tree_of c.args.a.now) (tree_of c.args.b.now) (operands_of c.in-Ok.x) (typed.assignment c.args.pos (assigning c.args.op)) c.in-Ok.ensures.ok) c.assigned.ensures.err

pub sizes-size-requires : goal.sizes-size-requires
sizes-size-requires t c = let h = item_less c.args.es.now c.loop-e.e-index c.e-item.result c.loop-e-test.true c.e-item.is in (omega (arith, h, c.decreases), tt)

pub arguments-expression-requires : goal.arguments-expression-requires
arguments-expression-requires t c = let h = item_less c.args.es.now c.loop-e.e-index c.e-item.result c.loop-e-test.true c.e-item.is in (omega (arith, h, c.decreases), tt)
