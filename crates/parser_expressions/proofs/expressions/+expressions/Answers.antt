use Rattle.std.proofs.Common.{◌+◌, ◌≤◌, length, ◌∷◌, [], sym, subst, ap, refl, arith}
use Rattle.std.proofs.lemmas.List.{map-append}
use Rattle.tree.specs.View.{tree_of}
use Rattle.parser_grammar.specs.Expressions.{layer}
use Rattle.tree.specs.declared.expression.BinaryOp.TheVariants as binary_op
use Rattle.parser_expressions.proofs.Views.{type_TypeName}
use Rattle.parser_expressions.proofs.Begun.{lift_layer, lift_result, pass_stands, full_stands, passes_stands, cast_full, cast_type_lift, cast_lift, before_full, before_lift, prefix_full, prefix_lift, size_full, size_lift, size_type_lift, identifier_full, constant_full, string_full, paren_full, paren_lift, call_lift, loop_passes, loop_stands, choice_passes, choice_yes_lift, choice_no_lift, assign_passes, assign_lift, growing_step_passes, growing_index_passes, growing_index_lift}
use Rattle.parser_expressions.proofs.Arguments.{pass_arguments, pass_stands_arguments, arguments_first_lift, arguments_next_lift, arguments_first_fails, arguments_next_fails, arguments_open, arguments_end, arguments_begin, arguments_next, arguments_none}
use Rattle.parser_expressions.proofs.Spine.{comma_climbs, cast_climbs, below_cast, comma_only, drop_last, loop_begins, loop_fails, loop_goes_on, loop_ends, loop_operand, loop_full}
use Rattle.parser_expressions.proofs.Postfix.{growing_begins, growing_none, growing_step, growing_index, growing_ends, growing_step_full, growing_index_full, growing_index_fails, growing_index_open}
use Rattle.parser_expressions.proofs.TypeNames.{cast_reads, cast_type_fails, cast_fails, no_cast, size_type_reads, size_type_fails, size_reads, size_fails, sizes_begin, sizes_next, sizes_next_fails, sizes_next_open, sizes_open, sizes_end, sizes_next_lift, plain_lift, type_none, pass_type, pass_stands_type}
use Rattle.parser_expressions.proofs.Productions.{pass, raise, full, never, before_reads, before_fails, prefix_reads, prefix_fails, no_prefix, paren_reads, paren_fails, paren_open, no_primary}
use Rattle.parser_expressions.proofs.Parts.{cond_ends, cond_fails, cond_full, cond_yes_fails, cond_colon, cond_no_fails, cond_reads, assign_ends, assign_left_fails, assign_no_left, assign_full, assign_right_fails, assign_reads, identifier_reads, call_reads, call_fails, constant_reads, string_reads}
use Rattle.parser_expressions.proofs.expressions.+expressions.Goals as goal

pub read_expression-returns-in_err-left-clause-answer : goal.read_expression-returns-in_err-left-clause-answer
read_expression-returns-in_err-left-clause-answer t c = pass 0 _ _ _ c.in_err-left.field-0.0 c.from_residual.ensures.1
    (loop_fails 1 0 _ _ _ comma_climbs c.in_err-left.ensures.answer)

pub read_expression-returns-in_err-left-clause-stands : goal.read_expression-returns-in_err-left-clause-stands
read_expression-returns-in_err-left-clause-stands t c = pass_stands 0 _ _ _ c.in_err-left.field-0.0 c.from_residual.ensures.1
    (lift_layer 0 1 _ _ _ (omega arith) c.in_err-left.ensures.stands)

pub read_expression-loop-pos-init : goal.read_expression-loop-pos-init
read_expression-loop-pos-init t c = record { shorter = c.in_ok-left.ensures.shorter; read = loop_begins 1 0 _ _ _ _ _ comma_climbs c.in_ok-left.ensures.answer }

pub read_expression-returns-in_err-below-clause-answer : goal.read_expression-returns-in_err-below-clause-answer
read_expression-returns-in_err-below-clause-answer t c = pass 0 _ _ _ c.in_err-below.field-0.0 c.from_residual-in_err-below.ensures.1
    (rw c.in_err-below.ensures.err.1 (loop_full 1 0 _ _ _ _ _ _ _ binary_op.Comma _ (omega arith) c.in-Some.ensures c.loop-pos.invariant.read
    c.in_err-below.ensures.err.0))

pub read_expression-returns-in_err-below-clause-stands : goal.read_expression-returns-in_err-below-clause-stands
read_expression-returns-in_err-below-clause-stands t c = pass_stands 0 _ _ _ c.in_err-below.field-0.0 c.from_residual-in_err-below.ensures.1
    (passes_stands 0 _ _ _ _ c.in_err-below.ensures.err.1 (loop_passes 1 0 _ _ _ _ _ _ _ binary_op.Comma (omega arith) (omega arith) c.in-Some.ensures
    c.loop-pos.invariant.read c.in_err-below.ensures.err.0))

pub read_expression-returns-in_err-right-clause-answer : goal.read_expression-returns-in_err-right-clause-answer
read_expression-returns-in_err-right-clause-answer t c = pass 0 _ _ _ c.in_err-right.field-0.0 c.from_residual-in_err-right.ensures.1
    (loop_operand 1 0 _ _ _ _ _ _ _ binary_op.Comma _ (omega arith) c.in-Some.ensures c.loop-pos.invariant.read
    (rw (sym c.in_ok-below.ensures.ok.1) c.in_err-right.ensures.answer))

pub read_expression-returns-in_err-right-clause-stands : goal.read_expression-returns-in_err-right-clause-stands
read_expression-returns-in_err-right-clause-stands t c = pass_stands 0 _ _ _ c.in_err-right.field-0.0 c.from_residual-in_err-right.ensures.1
    (loop_stands 1 0 _ _ _ _ _ _ _ binary_op.Comma _ (omega arith) (omega arith) c.in-Some.ensures c.loop-pos.invariant.read
    (rw (sym c.in_ok-below.ensures.ok.1) c.in_err-right.ensures.stands))

pub read_expression-loop-pos-preserved : goal.read_expression-loop-pos-preserved
read_expression-loop-pos-preserved t c = record {
  shorter = omega (
    arith,
    ap length c.in_ok-left-2.ensures.rest,
    c.in_ok-right.ensures.shorter,
    ap length
        c.in-Some.ensures,
    c.loop-pos.invariant.shorter,
  );
  read = rw (c.in_ok-left-2.ensures.ok, c.in_ok-left-2.ensures.rest)
      (loop_goes_on 1 0 _ _ _ _ _ _ _ binary_op.Comma _ c.in_ok-right.right.depth _ (omega arith) (omega arith) c.in-Some.ensures c.loop-pos.invariant.read
      (rw (sym c.in_ok-below.ensures.ok.1) c.in_ok-right.ensures.answer) (λ o le lt. absurd (omega (arith, le, lt))) c.in_ok-below.ensures.ok.0 _
      (omega (arith, c.in_ok-left-2.ensures.depth, c.loop-pos.invariant.read.height, c.in_ok-right.ensures.answer.height)));
}

pub read_expression-returns-clause-answer : goal.read_expression-returns-clause-answer
read_expression-returns-clause-answer t c = loop_ends 1 0 _ _ _ _ _ (λ op at mid le lt own. comma_only op _ at mid lt c.in_default.ensures own)
    c.loop-pos.invariant.read

pub read_assignment-returns-in_err-left-clause-answer : goal.read_assignment-returns-in_err-left-clause-answer
read_assignment-returns-in_err-left-clause-answer t c = pass 1 _ _ _ c.in_err-left.field-0.0 c.from_residual.ensures.1
    (assign_left_fails _ _ _ c.in_err-left.ensures.answer)

pub read_assignment-returns-in_err-left-clause-stands : goal.read_assignment-returns-in_err-left-clause-stands
read_assignment-returns-in_err-left-clause-stands t c = pass_stands 1 _ _ _ c.in_err-left.field-0.0 c.from_residual.ensures.1
    (lift_layer 1 2 _ _ _ (omega arith) c.in_err-left.ensures.stands)

pub read_assignment-returns-in_default-clause-answer : goal.read_assignment-returns-in_default-clause-answer
read_assignment-returns-in_default-clause-answer t c = assign_ends _ _ _ _ _ c.in_default.ensures c.in_ok-left.ensures.answer

pub read_assignment-returns-then-not-is_unary-clause-answer : goal.read_assignment-returns-then-not-is_unary-clause-answer
read_assignment-returns-then-not-is_unary-clause-answer t c = assign_no_left c.args.depth c.args.tokens.now _ _ _ _ _ _ _ c.in-Some.ensures
    c.in_ok-left.ensures.answer (λ le. let a = c.is_unary.ensures.1 (subst (λ e. 14 ≤ layer (tree_of e)) (sym c.deref.ensures) le) in let b = c.if-not-is_unary.true in grind (arith, a, b))

pub read_assignment-returns-in_err-below-clause-answer : goal.read_assignment-returns-in_err-below-clause-answer
read_assignment-returns-in_err-below-clause-answer t c = pass 1 _ _ _ c.in_err-below.field-0.0 c.from_residual-in_err-below.ensures.1
    (rw c.in_err-below.ensures.err.1 (assign_full _ _ _ _ _ _ _ _ _ c.in-Some.ensures c.in_ok-left.ensures.answer c.in_err-below.ensures.err.0))

pub read_assignment-returns-in_err-below-clause-stands : goal.read_assignment-returns-in_err-below-clause-stands
read_assignment-returns-in_err-below-clause-stands t c = pass_stands 1 _ _ _ c.in_err-below.field-0.0 c.from_residual-in_err-below.ensures.1
    (passes_stands 1 _ _ _ _ c.in_err-below.ensures.err.1 (assign_passes _ _ _ _ _ _ _ _ c.in-Some.ensures c.in_ok-left.ensures.answer
    (subst (λ e. 14 ≤ layer (tree_of e)) c.deref.ensures (c.is_unary.ensures.0 (let b = c.if-not-is_unary.false in grind (arith, b)))) c.in_err-below.ensures.err.0))

pub read_assignment-returns-in_err-right-clause-answer : goal.read_assignment-returns-in_err-right-clause-answer
read_assignment-returns-in_err-right-clause-answer t c = pass 1 _ _ _ c.in_err-right.field-0.0 c.from_residual-in_err-right.ensures.1
    (assign_right_fails _ _ _ _ _ _ _ _ _ c.in-Some.ensures c.in_ok-left.ensures.answer (rw (sym c.in_ok-below.ensures.ok.1) c.in_err-right.ensures.answer))

pub read_assignment-returns-in_err-right-clause-stands : goal.read_assignment-returns-in_err-right-clause-stands
read_assignment-returns-in_err-right-clause-stands t c = pass_stands 1 _ _ _ c.in_err-right.field-0.0 c.from_residual-in_err-right.ensures.1
    (assign_lift _ _ _ _ _ _ _ _ _ c.in-Some.ensures c.in_ok-left.ensures.answer (subst (λ e. 14 ≤ layer (tree_of e)) c.deref.ensures (c.is_unary.ensures.0 (let b = c.if-not-is_unary.false in grind (arith, b))))
    (rw (sym c.in_ok-below.ensures.ok.1) c.in_err-right.ensures.stands))

pub read_assignment-returns-clause-answer : goal.read_assignment-returns-clause-answer
read_assignment-returns-clause-answer t c = rw c.in_ok-assign_node.ensures.ok (assign_reads _ _ _ _ _ _ _ _ _ c.in_ok-right.right.depth _
    (c.max-depth.result + 1) c.in-Some.ensures c.in_ok-left.ensures.answer (subst (λ e. 14 ≤ layer (tree_of e)) c.deref.ensures (c.is_unary.ensures.0 (let b = c.if-not-is_unary.false in grind (arith, b))))
    (rw (sym c.in_ok-below.ensures.ok.1) c.in_ok-right.ensures.answer) c.in_ok-below.ensures.ok.0
    (omega (arith, c.max-depth.ensures, c.in_ok-left.ensures.answer.height, c.in_ok-right.ensures.answer.height)))

pub read_conditional-returns-in_err-test-clause-answer : goal.read_conditional-returns-in_err-test-clause-answer
read_conditional-returns-in_err-test-clause-answer t c = pass 2 _ _ _ c.in_err-test.field-0.0 c.from_residual.ensures.1
    (cond_fails _ _ _ c.in_err-test.ensures.answer)

pub read_conditional-returns-in_err-test-clause-stands : goal.read_conditional-returns-in_err-test-clause-stands
read_conditional-returns-in_err-test-clause-stands t c = pass_stands 2 _ _ _ c.in_err-test.field-0.0 c.from_residual.ensures.1
    (lift_layer 2 3 _ _ _ (omega arith) c.in_err-test.ensures.stands)

pub read_conditional-returns-in_default-clause-answer : goal.read_conditional-returns-in_default-clause-answer
read_conditional-returns-in_default-clause-answer t c = cond_ends _ _ _ _ _ c.in_default.ensures c.in_ok-test.ensures.answer

pub read_conditional-returns-in_err-below-clause-answer : goal.read_conditional-returns-in_err-below-clause-answer
read_conditional-returns-in_err-below-clause-answer t c = pass 2 _ _ _ c.in_err-below.field-0.0 c.from_residual-in_err-below.ensures.1
    (rw c.in_err-below.ensures.err.1 (cond_full _ _ _ _ _ _ _ _ c.in-Some.ensures c.in_ok-test.ensures.answer c.in_err-below.ensures.err.0))

pub read_conditional-returns-in_err-below-clause-stands : goal.read_conditional-returns-in_err-below-clause-stands
read_conditional-returns-in_err-below-clause-stands t c = pass_stands 2 _ _ _ c.in_err-below.field-0.0 c.from_residual-in_err-below.ensures.1
    (passes_stands 2 _ _ _ _ c.in_err-below.ensures.err.1 (choice_passes _ _ _ _ _ _ _ c.in-Some.ensures c.in_ok-test.ensures.answer
    c.in_err-below.ensures.err.0))

pub read_conditional-returns-in_err-yes-clause-answer : goal.read_conditional-returns-in_err-yes-clause-answer
read_conditional-returns-in_err-yes-clause-answer t c = pass 2 _ _ _ c.in_err-yes.field-0.0 c.from_residual-in_err-yes.ensures.1
    (cond_yes_fails _ _ _ _ _ _ _ _ c.in-Some.ensures c.in_ok-test.ensures.answer (rw (sym c.in_ok-below.ensures.ok.1) c.in_err-yes.ensures.answer))

pub read_conditional-returns-in_err-yes-clause-stands : goal.read_conditional-returns-in_err-yes-clause-stands
read_conditional-returns-in_err-yes-clause-stands t c = pass_stands 2 _ _ _ c.in_err-yes.field-0.0 c.from_residual-in_err-yes.ensures.1
    (choice_yes_lift _ _ _ _ _ _ _ _ c.in-Some.ensures c.in_ok-test.ensures.answer (rw (sym c.in_ok-below.ensures.ok.1) c.in_err-yes.ensures.stands))

pub read_conditional-returns-in_err-rest-clause-answer : goal.read_conditional-returns-in_err-rest-clause-answer
read_conditional-returns-in_err-rest-clause-answer t c = pass 2 _ _ _ c.in_err-rest.field-0.0 c.from_residual-in_err-rest.ensures.1
    (cond_colon _ _ _ _ _ _ _ _ _ _ _ _ c.in-Some.ensures c.in_ok-test.ensures.answer c.in_ok-yes.ensures.answer c.in_err-rest.ensures.err.0)

pub read_conditional-returns-in_err-no-clause-answer : goal.read_conditional-returns-in_err-no-clause-answer
read_conditional-returns-in_err-no-clause-answer t c = pass 2 _ _ _ c.in_err-no.field-0.0 c.from_residual-in_err-no.ensures.1
    (cond_no_fails _ _ _ _ _ _ _ _ _ _ _ _ _ _ c.in-Some.ensures c.in_ok-test.ensures.answer c.in_ok-yes.ensures.answer c.in_ok-rest.ensures.ok.1
    (rw (sym c.in_ok-below.ensures.ok.1) c.in_err-no.ensures.answer))

pub read_conditional-returns-in_err-no-clause-stands : goal.read_conditional-returns-in_err-no-clause-stands
read_conditional-returns-in_err-no-clause-stands t c = pass_stands 2 _ _ _ c.in_err-no.field-0.0 c.from_residual-in_err-no.ensures.1
    (choice_no_lift _ _ _ _ _ _ _ _ _ _ _ _ _ _ c.in-Some.ensures c.in_ok-test.ensures.answer c.in_ok-yes.ensures.answer c.in_ok-rest.ensures.ok.1
    (rw (sym c.in_ok-below.ensures.ok.1) c.in_err-no.ensures.stands))

pub read_conditional-returns-clause-answer : goal.read_conditional-returns-clause-answer
read_conditional-returns-clause-answer t c = rw c.in_ok-conditional_node.ensures.ok
    (cond_reads _ _ _ _ _ _ _ _ _ _ _ _ _ _ c.in_ok-no.no.depth _ (c.max-depth.result + 1) c.in-Some.ensures c.in_ok-test.ensures.answer
    c.in_ok-yes.ensures.answer c.in_ok-rest.ensures.ok.1 (rw (sym c.in_ok-below.ensures.ok.1) c.in_ok-no.ensures.answer) c.in_ok-below.ensures.ok.0
    c.in_ok-below.ensures.ok.1 (omega (
      arith,
      c.max-depth.ensures,
      c.max.ensures,
      c.in_ok-test.ensures.answer.height,
      c.in_ok-yes.ensures.answer.height,
      c.in_ok-no.ensures.answer.height,
    )))

pub binary-returns-in_err-left-clause-answer : goal.binary-returns-in_err-left-clause-answer
binary-returns-in_err-left-clause-answer t c = pass _ _ _ _ c.in_err-left.field-0.0 c.from_residual.ensures.1
    (loop_fails 13 _ _ _ _ (cast_climbs _ c.requires.from c.requires.upto) c.in_err-left.ensures.answer)

pub binary-returns-in_err-left-clause-stands : goal.binary-returns-in_err-left-clause-stands
binary-returns-in_err-left-clause-stands t c = pass_stands _ _ _ _ c.in_err-left.field-0.0 c.from_residual.ensures.1
    (lift_layer _ 13 _ _ _ c.requires.upto c.in_err-left.ensures.stands)

pub binary-loop-pos-init : goal.binary-loop-pos-init
binary-loop-pos-init t c = record {
  shorter = c.in_ok-left.ensures.shorter;
  read = loop_begins 13 _ _ _ _ _ _ (cast_climbs _ c.requires.from c.requires.upto)
      c.in_ok-left.ensures.answer;
}

pub binary-returns-in_err-below-clause-answer : goal.binary-returns-in_err-below-clause-answer
binary-returns-in_err-below-clause-answer t c = pass _ _ _ _ c.in_err-below.field-0.0 c.from_residual-in_err-below.ensures.1
    (rw c.in_err-below.ensures.err.1 (loop_full 13 _ _ _ _ _ _ _ _ _ _ c.in-Some.ensures.1 c.in-Some.ensures.0 c.loop-pos.invariant.read
    c.in_err-below.ensures.err.0))

pub binary-returns-in_err-below-clause-stands : goal.binary-returns-in_err-below-clause-stands
binary-returns-in_err-below-clause-stands t c = pass_stands _ _ _ _ c.in_err-below.field-0.0 c.from_residual-in_err-below.ensures.1
    (passes_stands _ _ _ _ _ c.in_err-below.ensures.err.1 (loop_passes 13 _ _ _ _ _ _ _ _ _ c.in-Some.ensures.1 (below_cast c.in-Some.op) c.in-Some.ensures.0
    c.loop-pos.invariant.read c.in_err-below.ensures.err.0))

pub binary-returns-in_err-right-clause-answer : goal.binary-returns-in_err-right-clause-answer
binary-returns-in_err-right-clause-answer t c = pass _ _ _ _ c.in_err-right.field-0.0 c.from_residual-in_err-right.ensures.1
    (loop_operand 13 _ _ _ _ _ _ _ _ _ _ c.in-Some.ensures.1 c.in-Some.ensures.0 c.loop-pos.invariant.read
    (rw (sym c.in_ok-below.ensures.ok.1, sym c.layer_number.ensures) c.in_err-right.ensures.answer))

pub binary-returns-in_err-right-clause-stands : goal.binary-returns-in_err-right-clause-stands
binary-returns-in_err-right-clause-stands t c = pass_stands _ _ _ _ c.in_err-right.field-0.0 c.from_residual-in_err-right.ensures.1
    (loop_stands 13 _ _ _ _ _ _ _ _ _ _ c.in-Some.ensures.1 (below_cast c.in-Some.op) c.in-Some.ensures.0 c.loop-pos.invariant.read
    (rw (sym c.in_ok-below.ensures.ok.1, sym c.layer_number.ensures) c.in_err-right.ensures.stands))

pub binary-loop-pos-preserved : goal.binary-loop-pos-preserved
binary-loop-pos-preserved t c = record {
  shorter = omega (
    arith,
    ap length c.in_ok-left-2.ensures.rest,
    c.in_ok-right.ensures.shorter,
    ap length
        c.in-Some.ensures.0,
    c.loop-pos.invariant.shorter,
  );
  read = rw (c.in_ok-left-2.ensures.ok, c.in_ok-left-2.ensures.rest)
      (loop_goes_on 13 _ _ _ _ _ _ _ _ _ _ c.in_ok-right.right.depth _ c.in-Some.ensures.1 (below_cast c.in-Some.op) c.in-Some.ensures.0 c.loop-pos.invariant.read
      (rw (sym c.in_ok-below.ensures.ok.1, sym c.layer_number.ensures) c.in_ok-right.ensures.answer)
      (drop_last _ _ _ (rw (sym c.layer_number.ensures) c.in_ok-right.ensures.ends)) c.in_ok-below.ensures.ok.0 _
      (omega (arith, c.in_ok-left-2.ensures.depth, c.loop-pos.invariant.read.height, c.in_ok-right.ensures.answer.height)));
}

pub binary-returns-clause-answer : goal.binary-returns-clause-answer
binary-returns-clause-answer t c = loop_ends 13 _ _ _ _ _ _ (λ op at mid le lt own. c.in_default.ensures op le at mid own) c.loop-pos.invariant.read

pub cast-returns-in_err-below-clause-answer : goal.cast-returns-in_err-below-clause-answer
cast-returns-in_err-below-clause-answer t c = pass 13 _ _ _ c.in_err-below.field-0.0 c.from_residual.ensures.1
    (rw c.in_err-below.ensures.err.1 (full 13 _ _ _ c.in_err-below.ensures.err.0))

pub cast-returns-in_err-below-clause-stands : goal.cast-returns-in_err-below-clause-stands
cast-returns-in_err-below-clause-stands t c = pass_stands 13 _ _ _ c.in_err-below.field-0.0 c.from_residual.ensures.1
    (full_stands 13 _ _ _ _ c.in_err-below.ensures.err.1 c.in_err-below.ensures.err.0 (cast_full _ _ _ c.in-Some.ensures.0))

pub cast-returns-in_err-named-clause-answer : goal.cast-returns-in_err-named-clause-answer
cast-returns-in_err-named-clause-answer t c = pass 13 _ _ _ c.in_err-named.field-0.0 c.from_residual-in_err-named.ensures.1
    (cast_type_fails _ _ _ _ _ c.in-Some.ensures.0 c.in-Some.ensures.1 (rw (sym c.in_ok-below.ensures.ok.1) c.in_err-named.ensures.answer))

pub cast-returns-in_err-named-clause-stands : goal.cast-returns-in_err-named-clause-stands
cast-returns-in_err-named-clause-stands t c = pass_stands 13 _ _ _ c.in_err-named.field-0.0 c.from_residual-in_err-named.ensures.1
    (cast_type_lift _ _ _ _ _ c.in-Some.ensures.0 (rw (sym c.in_ok-below.ensures.ok.1) c.in_err-named.ensures.stands))

pub cast-returns-in_err-operand-clause-answer : goal.cast-returns-in_err-operand-clause-answer
cast-returns-in_err-operand-clause-answer t c = pass 13 _ _ _ c.in_err-operand.field-0.0 c.from_residual-in_err-operand.ensures.1
    (cast_fails _ _ _ _ _ _ _ _ _ c.in-Some.ensures.0 c.in-Some.ensures.1 c.in_ok-named.ensures.answer
    (rw (sym c.in_ok-below.ensures.ok.1) c.in_err-operand.ensures.answer))

pub cast-returns-in_err-operand-clause-stands : goal.cast-returns-in_err-operand-clause-stands
cast-returns-in_err-operand-clause-stands t c = pass_stands 13 _ _ _ c.in_err-operand.field-0.0 c.from_residual-in_err-operand.ensures.1
    (cast_lift _ _ _ _ _ _ _ _ _ c.in-Some.ensures.0 c.in_ok-named.ensures.answer (rw (sym c.in_ok-below.ensures.ok.1) c.in_err-operand.ensures.stands))

pub cast-returns-in-Some-clause-answer : goal.cast-returns-in-Some-clause-answer
cast-returns-in-Some-clause-answer t c = rw c.in_ok-cast_node.ensures.ok
    (cast_reads _ _ _ _ c.in_ok-named.named.rest.now _ c.in_ok-named.named.depth _ c.in_ok-operand.operand.depth _ (c.max-depth.result + 1) c.in-Some.ensures.0
    c.in-Some.ensures.1 (rw (sym c.in_ok-below.ensures.ok.1) c.in_ok-named.ensures.answer) (rw (sym c.in_ok-below.ensures.ok.1) c.in_ok-operand.ensures.answer)
    (omega (arith, c.max-depth.ensures)))

pub cast-returns-clause-answer : goal.cast-returns-clause-answer
cast-returns-clause-answer t c = raise 13 14 _ _ _ (omega arith) (λ t x f. no_cast t _ x c.in_default.ensures f) c.unary.ensures.answer

pub cast-returns-clause-stands : goal.cast-returns-clause-stands
cast-returns-clause-stands t c = lift_result 13 14 _ _ _ (omega arith) c.unary.ensures.stands

pub type_name-returns-in_err-first-clause-answer : goal.type_name-returns-in_err-first-clause-answer
type_name-returns-in_err-first-clause-answer t c = pass_type _ _ _ c.in_err-first.field-0.0 c.from_residual.ensures.1
    (type_none _ _ _ c.in_err-first.ensures.plain c.in_err-first.ensures.answer)

pub type_name-returns-in_err-first-clause-stands : goal.type_name-returns-in_err-first-clause-stands
type_name-returns-in_err-first-clause-stands t c = pass_stands_type _ _ _ c.in_err-first.field-0.0 c.from_residual.ensures.1
    (plain_lift _ _ _ c.in_err-first.ensures.plain)

pub type_name-loop-inner-init : goal.type_name-loop-inner-init
type_name-loop-inner-init t c = record {
  shorter = c.in_ok-first.ensures.shorter;
  read = rw c.new-sizes.ensures.items
      (sizes_begin _ _ _ _ _ c.requires c.in_ok-first.ensures.answer);
}

pub type_name-returns-in_err-size-clause-answer : goal.type_name-returns-in_err-size-clause-answer
type_name-returns-in_err-size-clause-answer t c = pass_type _ _ _ c.in_err-size.field-0.0 c.from_residual-in_err-size.ensures.1
    (sizes_next_fails _ _ _ _ _ _ _ _ _ _ c.in-Some.ensures c.loop-inner.invariant.read c.in_err-size.ensures.answer)

pub type_name-returns-in_err-size-clause-stands : goal.type_name-returns-in_err-size-clause-stands
type_name-returns-in_err-size-clause-stands t c = pass_stands_type _ _ _ c.in_err-size.field-0.0 c.from_residual-in_err-size.ensures.1
    (sizes_next_lift _ _ _ _ _ _ _ _ _ _ c.in-Some.ensures c.loop-inner.invariant.read c.in_err-size.ensures.stands)

pub type_name-returns-in_err-rest-clause-answer : goal.type_name-returns-in_err-rest-clause-answer
type_name-returns-in_err-rest-clause-answer t c = pass_type _ _ _ c.in_err-rest.field-0.0 c.from_residual-in_err-rest.ensures.1
    (sizes_next_open _ _ _ _ _ _ _ _ _ _ _ _ _ _ c.in-Some.ensures c.loop-inner.invariant.read c.in_ok-size.ensures.answer c.in_err-rest.ensures.err.0)

pub type_name-loop-inner-preserved : goal.type_name-loop-inner-preserved
type_name-loop-inner-preserved t c = record {
  shorter = omega (
    arith,
    c.in_ok-size.ensures.shorter,
    ap length c.in-Some.ensures,
    ap length
        c.in_ok-rest.ensures.ok.1,
    c.loop-inner.invariant.shorter,
  );
  read = rw (
    c.in_ok-push_unboxed.ensures.ok,
    map-append tree_of c.loop-inner.sizes.items
        (c.in_ok-size.size.expr.value ∷ []),
  ) (sizes_next _ _ _ _ _ _ _ _ _ _ _ _ _ c.in_ok-size.size.depth _ c.in-Some.ensures c.loop-inner.invariant.read
      c.in_ok-size.ensures.answer c.in_ok-rest.ensures.ok.1 c.max-deepest.ensures);
}

pub type_name-returns-in_err-rest-2-clause-answer : goal.type_name-returns-in_err-rest-2-clause-answer
type_name-returns-in_err-rest-2-clause-answer t c = pass_type _ _ _ c.in_err-rest-2.field-0.0 c.from_residual-in_err-rest-2.ensures.1
    (sizes_open _ _ _ _ _ _ _ _ c.in_default.ensures c.in_err-rest-2.ensures.err.0 c.loop-inner.invariant.read)

pub type_name-returns-clause-answer : goal.type_name-returns-clause-answer
type_name-returns-clause-answer t c = rw (type_TypeName c.in_ok-first.first.specifiers c.loop-inner.sizes)
    (sizes_end _ _ _ _ _ _ _ _ _ c.in_default.ensures c.in_ok-rest-2.ensures.ok.1 c.loop-inner.invariant.read)

pub unary-returns-in_err-below-clause-answer : goal.unary-returns-in_err-below-clause-answer
unary-returns-in_err-below-clause-answer t c = pass 14 _ _ _ c.in_err-below.field-0.0 c.from_residual.ensures.1
    (rw c.in_err-below.ensures.err.1 (full 14 _ _ _ c.in_err-below.ensures.err.0))

pub unary-returns-in_err-below-clause-stands : goal.unary-returns-in_err-below-clause-stands
unary-returns-in_err-below-clause-stands t c = pass_stands 14 _ _ _ c.in_err-below.field-0.0 c.from_residual.ensures.1
    (full_stands 14 _ _ _ _ c.in_err-below.ensures.err.1 c.in_err-below.ensures.err.0 (before_full _ _ _ _ c.in-Some.ensures))

pub unary-returns-in_err-operand-clause-answer : goal.unary-returns-in_err-operand-clause-answer
unary-returns-in_err-operand-clause-answer t c = pass 14 _ _ _ c.in_err-operand.field-0.0 c.from_residual-in_err-operand.ensures.1
    (before_fails _ _ _ _ _ _ c.in-Some.ensures (rw (sym c.in_ok-below.ensures.ok.1) c.in_err-operand.ensures.answer))

pub unary-returns-in_err-operand-clause-stands : goal.unary-returns-in_err-operand-clause-stands
unary-returns-in_err-operand-clause-stands t c = pass_stands 14 _ _ _ c.in_err-operand.field-0.0 c.from_residual-in_err-operand.ensures.1
    (before_lift _ _ _ _ _ _ c.in-Some.ensures (rw (sym c.in_ok-below.ensures.ok.1) c.in_err-operand.ensures.stands))

pub unary-returns-in-Some-clause-answer : goal.unary-returns-in-Some-clause-answer
unary-returns-in-Some-clause-answer t c = rw c.in_ok-before_node.ensures.ok
    (before_reads _ _ _ _ _ _ _ _ c.in-Some.ensures (rw (sym c.in_ok-below.ensures.ok.1) c.in_ok-operand.ensures.answer))

pub unary-returns-in_err-below-2-clause-answer : goal.unary-returns-in_err-below-2-clause-answer
unary-returns-in_err-below-2-clause-answer t c = pass 14 _ _ _ c.in_err-below-2.field-0.0 c.from_residual-in_err-below-2.ensures.1
    (rw c.in_err-below-2.ensures.err.1 (full 14 _ _ _ c.in_err-below-2.ensures.err.0))

pub unary-returns-in_err-below-2-clause-stands : goal.unary-returns-in_err-below-2-clause-stands
unary-returns-in_err-below-2-clause-stands t c = pass_stands 14 _ _ _ c.in_err-below-2.field-0.0 c.from_residual-in_err-below-2.ensures.1
    (full_stands 14 _ _ _ _ c.in_err-below-2.ensures.err.1 c.in_err-below-2.ensures.err.0 (prefix_full _ _ _ _ c.in-Some-prefix_front.ensures))

pub unary-returns-in_err-operand-2-clause-answer : goal.unary-returns-in_err-operand-2-clause-answer
unary-returns-in_err-operand-2-clause-answer t c = pass 14 _ _ _ c.in_err-operand-2.field-0.0 c.from_residual-in_err-operand-2.ensures.1
    (prefix_fails _ _ _ _ _ _ c.in-Some-prefix_front.ensures (rw (sym c.in_ok-below-2.ensures.ok.1) c.in_err-operand-2.ensures.answer))

pub unary-returns-in_err-operand-2-clause-stands : goal.unary-returns-in_err-operand-2-clause-stands
unary-returns-in_err-operand-2-clause-stands t c = pass_stands 14 _ _ _ c.in_err-operand-2.field-0.0 c.from_residual-in_err-operand-2.ensures.1
    (prefix_lift _ _ _ _ _ _ c.in-Some-prefix_front.ensures (rw (sym c.in_ok-below-2.ensures.ok.1) c.in_err-operand-2.ensures.stands))

pub unary-returns-in-Some-prefix_front-clause-answer : goal.unary-returns-in-Some-prefix_front-clause-answer
unary-returns-in-Some-prefix_front-clause-answer t c = rw c.in_ok-prefix_node.ensures.ok (prefix_reads _ _ _ _ _ _ _ _ c.in-Some-prefix_front.ensures
    (rw (sym c.in_ok-below-2.ensures.ok.1) c.in_ok-operand-2.ensures.answer))

pub unary-returns-in-Some-keyword_front-clause-answer : goal.unary-returns-in-Some-keyword_front-clause-answer
unary-returns-in-Some-keyword_front-clause-answer t c = rw c.in-Some-keyword_front.ensures c.sizeof.ensures.answer

pub unary-returns-in-Some-keyword_front-clause-stands : goal.unary-returns-in-Some-keyword_front-clause-stands
unary-returns-in-Some-keyword_front-clause-stands t c = rw c.in-Some-keyword_front.ensures c.sizeof.ensures.stands

pub unary-returns-clause-answer : goal.unary-returns-clause-answer
unary-returns-clause-answer t c = raise 14 15 _ _ _ (omega arith) (λ t x f. no_prefix t _ x c.in_default.ensures c.in_default-prefix_front.ensures
    c.in_default-keyword_front.ensures f) c.postfix.ensures.answer

pub unary-returns-clause-stands : goal.unary-returns-clause-stands
unary-returns-clause-stands t c = lift_result 14 15 _ _ _ (omega arith) c.postfix.ensures.stands

pub sizeof-returns-in_err-below-clause-answer : goal.sizeof-returns-in_err-below-clause-answer
sizeof-returns-in_err-below-clause-answer t c = pass 14 _ _ _ c.in_err-below.field-0.0 c.from_residual.ensures.1
    (rw c.in_err-below.ensures.err.1 (full 14 _ _ _ c.in_err-below.ensures.err.0))

pub sizeof-returns-in_err-below-clause-stands : goal.sizeof-returns-in_err-below-clause-stands
sizeof-returns-in_err-below-clause-stands t c = pass_stands 14 _ _ _ c.in_err-below.field-0.0 c.from_residual.ensures.1
    (full_stands 14 _ _ _ _ c.in_err-below.ensures.err.1 c.in_err-below.ensures.err.0 (size_full _ _ _ refl))

pub sizeof-returns-in_err-named-clause-answer : goal.sizeof-returns-in_err-named-clause-answer
sizeof-returns-in_err-named-clause-answer t c = pass 14 _ _ _ c.in_err-named.field-0.0 c.from_residual-in_err-named.ensures.1
    (size_type_fails _ _ _ _ _ _ _ refl c.in-Some.ensures.0 c.in-Some.ensures.1 (rw (sym c.in_ok-below.ensures.ok.1) c.in_err-named.ensures.answer))

pub sizeof-returns-in_err-named-clause-stands : goal.sizeof-returns-in_err-named-clause-stands
sizeof-returns-in_err-named-clause-stands t c = pass_stands 14 _ _ _ c.in_err-named.field-0.0 c.from_residual-in_err-named.ensures.1
    (size_type_lift _ _ _ _ _ _ _ refl c.in-Some.ensures.0 (rw (sym c.in_ok-below.ensures.ok.1) c.in_err-named.ensures.stands))

pub sizeof-returns-in-Some-clause-answer : goal.sizeof-returns-in-Some-clause-answer
sizeof-returns-in-Some-clause-answer t c = rw c.in_ok-type_size_node.ensures.ok (size_type_reads _ _ _ _ _ _ _ _ _ refl c.in-Some.ensures.0
    c.in-Some.ensures.1 (rw (sym c.in_ok-below.ensures.ok.1) c.in_ok-named.ensures.answer))

pub sizeof-returns-in_err-operand-clause-answer : goal.sizeof-returns-in_err-operand-clause-answer
sizeof-returns-in_err-operand-clause-answer t c = pass 14 _ _ _ c.in_err-operand.field-0.0 c.from_residual-in_err-operand.ensures.1
    (size_fails _ _ _ _ _ refl c.in_default.ensures (rw (sym c.in_ok-below.ensures.ok.1) c.in_err-operand.ensures.answer))

pub sizeof-returns-in_err-operand-clause-stands : goal.sizeof-returns-in_err-operand-clause-stands
sizeof-returns-in_err-operand-clause-stands t c = pass_stands 14 _ _ _ c.in_err-operand.field-0.0 c.from_residual-in_err-operand.ensures.1
    (size_lift _ _ _ _ _ refl (rw (sym c.in_ok-below.ensures.ok.1) c.in_err-operand.ensures.stands))

pub sizeof-returns-clause-answer : goal.sizeof-returns-clause-answer
sizeof-returns-clause-answer t c = rw c.in_ok-size_node.ensures.ok
    (size_reads _ _ _ _ _ _ _ refl c.in_default.ensures (rw (sym c.in_ok-below.ensures.ok.1) c.in_ok-operand.ensures.answer))

pub postfix-returns-in_err-left-clause-answer : goal.postfix-returns-in_err-left-clause-answer
postfix-returns-in_err-left-clause-answer t c = pass 15 _ _ _ c.in_err-left.field-0.0 c.from_residual.ensures.1
    (growing_none _ _ _ c.in_err-left.ensures.answer)

pub postfix-returns-in_err-left-clause-stands : goal.postfix-returns-in_err-left-clause-stands
postfix-returns-in_err-left-clause-stands t c = pass_stands 15 _ _ _ c.in_err-left.field-0.0 c.from_residual.ensures.1
    (lift_layer 15 16 _ _ _ (omega arith) c.in_err-left.ensures.stands)

pub postfix-loop-pos-init : goal.postfix-loop-pos-init
postfix-loop-pos-init t c = record { shorter = c.in_ok-left.ensures.shorter; read = growing_begins _ _ _ _ _ c.in_ok-left.ensures.answer }

pub postfix-returns-in_err-above-clause-answer : goal.postfix-returns-in_err-above-clause-answer
postfix-returns-in_err-above-clause-answer t c = pass 15 _ _ _ c.in_err-above.field-0.0 c.from_residual-in_err-above.ensures.1
    (rw c.in_err-above.ensures.err.1 (growing_step_full _ _ _ _ _ _ _ _ _ c.in-Some.ensures c.loop-pos.invariant.read c.in_err-above.ensures.err.0))

pub postfix-returns-in_err-above-clause-stands : goal.postfix-returns-in_err-above-clause-stands
postfix-returns-in_err-above-clause-stands t c = pass_stands 15 _ _ _ c.in_err-above.field-0.0 c.from_residual-in_err-above.ensures.1
    (passes_stands 15 _ _ _ _ c.in_err-above.ensures.err.1 (growing_step_passes _ _ _ _ _ _ _ _ c.in-Some.ensures c.loop-pos.invariant.read
    c.in_err-above.ensures.err.0))

pub postfix-returns-in_err-below-clause-answer : goal.postfix-returns-in_err-below-clause-answer
postfix-returns-in_err-below-clause-answer t c = pass 15 _ _ _ c.in_err-below.field-0.0 c.from_residual-in_err-below.ensures.1
    (rw c.in_err-below.ensures.err.1 (growing_index_full _ _ _ _ _ _ _ _ c.in-Some-sign_front.ensures c.loop-pos.invariant.read c.in_err-below.ensures.err.0))

pub postfix-returns-in_err-below-clause-stands : goal.postfix-returns-in_err-below-clause-stands
postfix-returns-in_err-below-clause-stands t c = pass_stands 15 _ _ _ c.in_err-below.field-0.0 c.from_residual-in_err-below.ensures.1
    (passes_stands 15 _ _ _ _ c.in_err-below.ensures.err.1 (growing_index_passes _ _ _ _ _ _ _ c.in-Some-sign_front.ensures c.loop-pos.invariant.read
    c.in_err-below.ensures.err.0))

pub postfix-returns-in_err-index-clause-answer : goal.postfix-returns-in_err-index-clause-answer
postfix-returns-in_err-index-clause-answer t c = pass 15 _ _ _ c.in_err-index.field-0.0 c.from_residual-in_err-index.ensures.1
    (growing_index_fails _ _ _ _ _ _ _ _ c.in-Some-sign_front.ensures c.loop-pos.invariant.read
    (rw (sym c.in_ok-below.ensures.ok.1) c.in_err-index.ensures.answer))

pub postfix-returns-in_err-index-clause-stands : goal.postfix-returns-in_err-index-clause-stands
postfix-returns-in_err-index-clause-stands t c = pass_stands 15 _ _ _ c.in_err-index.field-0.0 c.from_residual-in_err-index.ensures.1
    (growing_index_lift _ _ _ _ _ _ _ _ c.in-Some-sign_front.ensures c.loop-pos.invariant.read
    (rw (sym c.in_ok-below.ensures.ok.1) c.in_err-index.ensures.stands))

pub postfix-returns-in_err-rest-clause-answer : goal.postfix-returns-in_err-rest-clause-answer
postfix-returns-in_err-rest-clause-answer t c = pass 15 _ _ _ c.in_err-rest.field-0.0 c.from_residual-in_err-rest.ensures.1
    (growing_index_open _ _ _ _ _ _ _ _ _ _ _ _ c.in-Some-sign_front.ensures c.loop-pos.invariant.read c.in_ok-index.ensures.answer c.in_err-rest.ensures.err.0)

pub postfix-loop-pos-preserved-in-Some : goal.postfix-loop-pos-preserved-in-Some
postfix-loop-pos-preserved-in-Some t c = record {
  shorter = omega (
    arith,
    ap length c.in_ok-left-2.ensures.rest,
    ap length c.in-Some.ensures,
    c.loop-pos.invariant.shorter,
  );
  read = rw (c.in_ok-left-2.ensures.ok, c.in_ok-left-2.ensures.rest)
      (growing_step _ _ _ _ _ _ _ _ _ c.in-Some.ensures c.loop-pos.invariant.read c.in_ok-above.ensures.ok.0 c.in_ok-left-2.ensures.depth);
}

pub postfix-loop-pos-preserved : goal.postfix-loop-pos-preserved
postfix-loop-pos-preserved t c = record {
  shorter = omega (
    arith,
    ap length c.in_ok-left-3.ensures.rest,
    c.in_ok-index.ensures.shorter,
    ap length
        c.in-Some-sign_front.ensures,
    ap length c.in_ok-rest.ensures.ok.1,
    c.loop-pos.invariant.shorter,
  );
  read = rw
      (c.in_ok-left-3.ensures.ok, c.in_ok-left-3.ensures.rest) (growing_index _ _ _ _ _ _ _ _ _ _ _ c.in_ok-index.index.depth _ c.in-Some-sign_front.ensures
      c.loop-pos.invariant.read (rw (sym c.in_ok-below.ensures.ok.1) c.in_ok-index.ensures.answer) c.in_ok-rest.ensures.ok.1 c.in_ok-below.ensures.ok.0
      (omega (arith, c.in_ok-left-3.ensures.depth, c.loop-pos.invariant.read.height, c.in_ok-index.ensures.answer.height)));
}

pub postfix-returns-in_default-sign_front-clause-answer : goal.postfix-returns-in_default-sign_front-clause-answer
postfix-returns-in_default-sign_front-clause-answer t c = growing_ends _ _ _ _ _ c.in_default.ensures c.in_default-sign_front.ensures c.loop-pos.invariant.read

pub primary-returns-in_err-below-clause-answer : goal.primary-returns-in_err-below-clause-answer
primary-returns-in_err-below-clause-answer t c = pass 16 _ _ _ c.in_err-below.field-0.0 c.from_residual.ensures.1
    (rw c.in_err-below.ensures.err.1 (full 16 _ _ _ c.in_err-below.ensures.err.0))

pub primary-returns-in_err-below-clause-stands : goal.primary-returns-in_err-below-clause-stands
primary-returns-in_err-below-clause-stands t c = pass_stands 16 _ _ _ c.in_err-below.field-0.0 c.from_residual.ensures.1
    (full_stands 16 _ _ _ _ c.in_err-below.ensures.err.1 c.in_err-below.ensures.err.0 (identifier_full _ _ _ _ c.in-Some.ensures))

pub primary-returns-in_err-arguments-clause-answer : goal.primary-returns-in_err-arguments-clause-answer
primary-returns-in_err-arguments-clause-answer t c = pass 16 _ _ _ c.in_err-arguments.field-0.0 c.from_residual-in_err-arguments.ensures.1
    (call_fails _ _ _ _ _ _ _ _ c.in-Some.ensures c.in-Some-sign_front.ensures (rw (sym c.in_ok-below.ensures.ok.1) c.in_err-arguments.ensures.answer))

pub primary-returns-in_err-arguments-clause-stands : goal.primary-returns-in_err-arguments-clause-stands
primary-returns-in_err-arguments-clause-stands t c = pass_stands 16 _ _ _ c.in_err-arguments.field-0.0 c.from_residual-in_err-arguments.ensures.1
    (call_lift _ _ _ _ _ _ _ _ c.in-Some.ensures c.in-Some-sign_front.ensures (rw (sym c.in_ok-below.ensures.ok.1) c.in_err-arguments.ensures.stands))

pub primary-returns-in-Some-sign_front-clause-answer : goal.primary-returns-in-Some-sign_front-clause-answer
primary-returns-in-Some-sign_front-clause-answer t c = rw c.in_ok-call_node.ensures.ok
    (call_reads _ _ _ _ _ _ _ _ _ _ c.in-Some.ensures c.in-Some-sign_front.ensures (rw (sym c.in_ok-below.ensures.ok.1) c.in_ok-arguments.ensures.answer))

pub primary-returns-in-Some-clause-answer : goal.primary-returns-in-Some-clause-answer
primary-returns-in-Some-clause-answer t c = rw c.in_ok-name_node.ensures.ok
    (identifier_reads _ _ _ _ _ c.in-Some.ensures c.in_default-sign_front.ensures c.in_ok-below.ensures.ok.0)

pub primary-returns-in_err-down-clause-answer : goal.primary-returns-in_err-down-clause-answer
primary-returns-in_err-down-clause-answer t c = pass 16 _ _ _ c.in_err-down.field-0.0 c.from_residual-in_err-down.ensures.1
    (rw c.in_err-down.ensures.err.1 (full 16 _ _ _ c.in_err-down.ensures.err.0))

pub primary-returns-in_err-down-clause-stands : goal.primary-returns-in_err-down-clause-stands
primary-returns-in_err-down-clause-stands t c = pass_stands 16 _ _ _ c.in_err-down.field-0.0 c.from_residual-in_err-down.ensures.1
    (full_stands 16 _ _ _ _ c.in_err-down.ensures.err.1 c.in_err-down.ensures.err.0 (constant_full _ _ _ _ _ c.in-Some-constant_front.ensures))

pub primary-returns-in-Some-constant_front-clause-answer : goal.primary-returns-in-Some-constant_front-clause-answer
primary-returns-in-Some-constant_front-clause-answer t c = rw c.in_ok-constant_node.ensures.ok (constant_reads _ _ _ _ _ _ c.in-Some-constant_front.ensures c.in_ok-down.ensures.ok.0)

pub primary-returns-in_err-down-2-clause-answer : goal.primary-returns-in_err-down-2-clause-answer
primary-returns-in_err-down-2-clause-answer t c = pass 16 _ _ _ c.in_err-down-2.field-0.0 c.from_residual-in_err-down-2.ensures.1
    (rw c.in_err-down-2.ensures.err.1 (full 16 _ _ _ c.in_err-down-2.ensures.err.0))

pub primary-returns-in_err-down-2-clause-stands : goal.primary-returns-in_err-down-2-clause-stands
primary-returns-in_err-down-2-clause-stands t c = pass_stands 16 _ _ _ c.in_err-down-2.field-0.0 c.from_residual-in_err-down-2.ensures.1
    (full_stands 16 _ _ _ _ c.in_err-down-2.ensures.err.1 c.in_err-down-2.ensures.err.0 (string_full _ _ _ _ c.in-Some-string_front.ensures))

pub primary-returns-in-Some-string_front-clause-answer : goal.primary-returns-in-Some-string_front-clause-answer
primary-returns-in-Some-string_front-clause-answer t c = rw c.in_ok-string_node.ensures.ok
    (string_reads _ _ _ _ _ c.in-Some-string_front.ensures c.in_ok-down-2.ensures.ok.0)

pub primary-returns-in_default-sign_front-2-clause-answer : goal.primary-returns-in_default-sign_front-2-clause-answer
primary-returns-in_default-sign_front-2-clause-answer t c = never 16 _ _ _ (λ t r f. no_primary t _ r c.in_default.ensures c.in_default-constant_front.ensures
    c.in_default-string_front.ensures c.in_default-sign_front-2.ensures f)

pub primary-returns-in_err-below-2-clause-answer : goal.primary-returns-in_err-below-2-clause-answer
primary-returns-in_err-below-2-clause-answer t c = pass 16 _ _ _ c.in_err-below-2.field-0.0 c.from_residual-in_err-below-2.ensures.1
    (rw c.in_err-below-2.ensures.err.1 (full 16 _ _ _ c.in_err-below-2.ensures.err.0))

pub primary-returns-in_err-below-2-clause-stands : goal.primary-returns-in_err-below-2-clause-stands
primary-returns-in_err-below-2-clause-stands t c = pass_stands 16 _ _ _ c.in_err-below-2.field-0.0 c.from_residual-in_err-below-2.ensures.1
    (full_stands 16 _ _ _ _ c.in_err-below-2.ensures.err.1 c.in_err-below-2.ensures.err.0 (paren_full _ _ _ c.in-Some-sign_front-2.ensures))

pub primary-returns-in_err-inner-clause-answer : goal.primary-returns-in_err-inner-clause-answer
primary-returns-in_err-inner-clause-answer t c = pass 16 _ _ _ c.in_err-inner.field-0.0 c.from_residual-in_err-inner.ensures.1
    (paren_fails _ _ _ _ _ c.in-Some-sign_front-2.ensures (rw (sym c.in_ok-below-2.ensures.ok.1) c.in_err-inner.ensures.answer))

pub primary-returns-in_err-inner-clause-stands : goal.primary-returns-in_err-inner-clause-stands
primary-returns-in_err-inner-clause-stands t c = pass_stands 16 _ _ _ c.in_err-inner.field-0.0 c.from_residual-in_err-inner.ensures.1
    (paren_lift _ _ _ _ _ c.in-Some-sign_front-2.ensures (rw (sym c.in_ok-below-2.ensures.ok.1) c.in_err-inner.ensures.stands))

pub primary-returns-in_err-rest-clause-answer : goal.primary-returns-in_err-rest-clause-answer
primary-returns-in_err-rest-clause-answer t c = pass 16 _ _ _ c.in_err-rest.field-0.0 c.from_residual-in_err-rest.ensures.1
    (paren_open _ _ _ _ _ _ _ _ _ c.in-Some-sign_front-2.ensures c.in_ok-inner.ensures.answer c.in_err-rest.ensures.err.0)

pub primary-returns-clause-answer : goal.primary-returns-clause-answer
primary-returns-clause-answer t c = rw c.in_ok-paren_node.ensures.ok (paren_reads _ _ _ _ _ _ _ _ _ c.in-Some-sign_front-2.ensures
    c.in_ok-rest.ensures.ok.1 (rw (sym c.in_ok-below-2.ensures.ok.1) c.in_ok-inner.ensures.answer))

pub read_arguments-returns-in-Some-clause-answer : goal.read_arguments-returns-in-Some-clause-answer
read_arguments-returns-in-Some-clause-answer t c = rw c.new-list.ensures.items (arguments_none _ _ _ _ c.in-Some.ensures c.requires)

pub read_arguments-returns-in_err-first-clause-answer : goal.read_arguments-returns-in_err-first-clause-answer
read_arguments-returns-in_err-first-clause-answer t c = pass_arguments _ _ _ c.in_err-first.field-0.0 c.from_residual.ensures.1
    (arguments_first_fails _ _ _ (λ at rest own. c.in_default.ensures at rest own) c.in_err-first.ensures.answer)

pub read_arguments-returns-in_err-first-clause-stands : goal.read_arguments-returns-in_err-first-clause-stands
read_arguments-returns-in_err-first-clause-stands t c = pass_stands_arguments _ _ _ c.in_err-first.field-0.0 c.from_residual.ensures.1
    (arguments_first_lift _ _ _ c.in_err-first.ensures.stands)

pub read_arguments-loop-after-init : goal.read_arguments-loop-after-init
read_arguments-loop-after-init t c = record {
  shorter = c.in_ok-first.ensures.shorter;
  read = rw (c.in_ok-push_unboxed.ensures.ok, c.new-list.ensures.items)
      (arguments_begin _ _ _ _ _ (λ at rest own. c.in_default.ensures at rest own) c.in_ok-first.ensures.answer);
}

pub read_arguments-returns-in_err-next-clause-answer : goal.read_arguments-returns-in_err-next-clause-answer
read_arguments-returns-in_err-next-clause-answer t c = pass_arguments _ _ _ c.in_err-next.field-0.0 c.from_residual-in_err-next.ensures.1
    (arguments_next_fails _ _ _ _ _ _ _ _ c.in-Some-sign_front.ensures c.loop-after.invariant.read c.in_err-next.ensures.answer)

pub read_arguments-returns-in_err-next-clause-stands : goal.read_arguments-returns-in_err-next-clause-stands
read_arguments-returns-in_err-next-clause-stands t c = pass_stands_arguments _ _ _ c.in_err-next.field-0.0 c.from_residual-in_err-next.ensures.1
    (arguments_next_lift _ _ _ _ _ _ _ _ c.in-Some-sign_front.ensures c.loop-after.invariant.read c.in_err-next.ensures.stands)

pub read_arguments-loop-after-preserved : goal.read_arguments-loop-after-preserved
read_arguments-loop-after-preserved t c = record {
  shorter = omega (
    arith,
    c.in_ok-next.ensures.shorter,
    ap length c.in-Some-sign_front.ensures,
    c.loop-after.invariant.shorter,
  );
  read = rw (c.in_ok-push_unboxed-2.ensures.ok, map-append tree_of c.loop-after.list.items (c.in_ok-next.next.expr.value ∷ []))
      (arguments_next _ _ _ _ _ _ _ _ c.in_ok-next.next.depth _ _ c.in-Some-sign_front.ensures c.loop-after.invariant.read c.in_ok-next.ensures.answer
      c.max-deepest.ensures);
}

pub read_arguments-returns-in_err-rest-clause-answer : goal.read_arguments-returns-in_err-rest-clause-answer
read_arguments-returns-in_err-rest-clause-answer t c = pass_arguments _ _ _ c.in_err-rest.field-0.0 c.from_residual-in_err-rest.ensures.1
    (arguments_open _ _ _ _ _ _ c.in_default-sign_front.ensures c.in_err-rest.ensures.err.0 c.loop-after.invariant.read)

pub read_arguments-returns-clause-answer : goal.read_arguments-returns-clause-answer
read_arguments-returns-clause-answer t c = arguments_end _ _ _ _ _ _ _ c.in_default-sign_front.ensures c.in_ok-rest.ensures.ok.1 c.loop-after.invariant.read
