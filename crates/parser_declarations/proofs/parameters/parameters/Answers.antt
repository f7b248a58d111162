use Rattle.std.proofs.Common.{length, [], ◌∷◌, ap, arith}
use Rattle.std.proofs.lemmas.List.{map-append}
use Rattle.tree.specs.View.{parameter_of}
use Rattle.parser_declarations.specs.inside.SpecifierAnswers.{AnswersParameters, StandsParameters}
use Rattle.parser_grammar.proofs.Exits.{passed_on, err_passed_on}
use Rattle.parser_declarations.proofs.ParameterLists.{parameters_void, parameters_first_fail, parameters_first_stand, parameters_begin, parameters_more, parameters_fail, parameters_stand, parameters_open, parameters_end}
use Rattle.parser_declarations.proofs.parameters.parameters.Goals as goal

pub returns-in-Some-clause-answer : goal.returns-in-Some-clause-answer
returns-in-Some-clause-answer c = rw c.new-list.ensures.items (parameters_void _ _ _ _ _ _ c.requires c.in-Some.ensures.3 c.in-Some.ensures.4)

pub returns-in_err-first-clause-answer : goal.returns-in_err-first-clause-answer
returns-in_err-first-clause-answer c = passed_on (AnswersParameters c.args.depth c.args.tokens.now) _ c.in_err-first.field-0.0 c.from_residual.ensures.1
    (parameters_first_fail _ _ _ c.in_default.ensures c.in_err-first.ensures.answer)

pub returns-in_err-first-clause-stands : goal.returns-in_err-first-clause-stands
returns-in_err-first-clause-stands c = err_passed_on (StandsParameters c.args.depth c.args.tokens.now) _ c.in_err-first.field-0.0 c.from_residual.ensures.1
    (parameters_first_stand _ _ _ c.requires c.in_err-first.ensures.stands)

pub loop-after-init : goal.loop-after-init
loop-after-init c = record {
  shorter = c.in_ok-first.ensures.shorter;
  read = rw (c.in_ok-push.ensures.items, c.new-list.ensures.items)
      (parameters_begin _ _ _ _ _ c.in_ok-first.ensures.answer);
}

pub returns-in_err-next-clause-answer : goal.returns-in_err-next-clause-answer
returns-in_err-next-clause-answer c = passed_on (AnswersParameters c.args.depth c.args.tokens.now) _ c.in_err-next.field-0.0
    c.from_residual-in_err-next.ensures.1 (parameters_fail _ _ _ _ _ _ _ _ c.in_default.ensures c.in-Some-sign_front.ensures c.loop-after.invariant.read
    c.in_err-next.ensures.answer)

pub returns-in_err-next-clause-stands : goal.returns-in_err-next-clause-stands
returns-in_err-next-clause-stands c = err_passed_on (StandsParameters c.args.depth c.args.tokens.now) _ c.in_err-next.field-0.0
    c.from_residual-in_err-next.ensures.1 (parameters_stand _ _ _ _ _ _ _ _ c.requires c.in-Some-sign_front.ensures c.loop-after.invariant.read
    c.in_err-next.ensures.stands)

pub loop-after-preserved : goal.loop-after-preserved
loop-after-preserved c = record {
  shorter = omega (arith, c.in_ok-next.ensures.shorter, ap length c.in-Some-sign_front.ensures, c.loop-after.invariant.shorter);
  read = rw (c.in_ok-push-2.ensures.items, map-append parameter_of c.loop-after.list.items (c.in_ok-next.next.parameter ∷ []))
      (parameters_more _ _ _ _ _ _ _ _ c.in_ok-next.next.depth _ _ c.in-Some-sign_front.ensures c.loop-after.invariant.read c.in_ok-next.ensures.answer
      c.max-deepest.ensures);
}

pub returns-in_err-rest-clause-answer : goal.returns-in_err-rest-clause-answer
returns-in_err-rest-clause-answer c = passed_on (AnswersParameters c.args.depth c.args.tokens.now) _ c.in_err-rest.field-0.0
    c.from_residual-in_err-rest.ensures.1 (parameters_open _ _ _ _ _ _ c.in_default.ensures c.in_default-sign_front.ensures c.in_err-rest.ensures.err.0
    c.loop-after.invariant.read)

pub returns-clause-answer : goal.returns-clause-answer
returns-clause-answer c = parameters_end _ _ _ _ _ _ _ c.in_default.ensures c.in_default-sign_front.ensures c.in_ok-rest.ensures.ok.1
    c.loop-after.invariant.read
