use Rattle.std.proofs.Common.{arith}
use Rattle.parser_grammar.proofs.ExpressionBegun.{specifier_shorter}
use Rattle.parser_expressions.proofs.TypeSpecifierFacts.{specifiers_begin, specifiers_next, specifiers_end, specifiers_none, specifiers_next_fails, pass_specifiers}
use Rattle.parser_expressions.proofs.type_specifiers.type_specifiers.Goals as goal

pub returns-in_err-pos-clause-answer : goal.returns-in_err-pos-clause-answer
returns-in_err-pos-clause-answer c = pass_specifiers _ _ c.in_err-pos.field-0.0 c.from_residual.ensures.1 (specifiers_none _ _ c.in_err-pos.ensures.err)

pub loop-rest-init : goal.loop-rest-init
loop-rest-init c = record {
  shorter = specifier_shorter _ _ _ c.in_ok-pos.ensures.ok;
  read = rw (c.in_ok-push.ensures.items, c.new-list.ensures.items)
      (specifiers_begin _ _ _ c.in_ok-pos.ensures.ok);
}

pub returns-in_err-next-clause-answer : goal.returns-in_err-next-clause-answer
returns-in_err-next-clause-answer c = pass_specifiers _ _ c.in_err-next.field-0.0 c.from_residual-in_err-next.ensures.1
    (specifiers_next_fails _ _ _ _ c.loop-rest.invariant.read (c.begins_type.ensures.0 c.loop-rest-test.true) c.in_err-next.ensures.err)

pub loop-rest-preserved : goal.loop-rest-preserved
loop-rest-preserved c = record {
  shorter = omega (arith, specifier_shorter _ _ _ c.in_ok-next.ensures.ok, c.loop-rest.invariant.shorter);
  read = rw
      c.in_ok-push-2.ensures.items (specifiers_next _ _ _ _ _ c.loop-rest.invariant.read c.in_ok-next.ensures.ok);
}

pub returns-clause-answer : goal.returns-clause-answer
returns-clause-answer c = specifiers_end _ _ _ _ c.in_ok-pos.ensures.place (λ b. let t = c.begins_type.ensures.1 b in let f = c.loop-rest-test.false in cc)
    c.loop-rest.invariant.read
