use Rattle.std.proofs.Common.{length, [], ◌∷◌, ap, arith}
use Rattle.std.proofs.lemmas.List.{map-append}
use Rattle.tree.specs.View.{enumerator_of}
use Rattle.parser_declarations.specs.inside.DeclarationParts.{AnswersEnumerators, StandsEnumerators}
use Rattle.parser_grammar.proofs.Exits.{passed_on, err_passed_on}
use Rattle.parser_declarations.proofs.EnumeratorLists.{list_first_fails, list_first_stands, list_begins, list_more, list_more_fails, list_more_stands, list_open, list_ends}
use Rattle.parser_declarations.proofs.enumerators.enumerators.Goals as goal

pub returns-in_err-first-clause-answer : goal.returns-in_err-first-clause-answer
returns-in_err-first-clause-answer c = passed_on (AnswersEnumerators c.args.depth c.args.tokens.now) _ c.in_err-first.field-0.0 c.from_residual.ensures.1
    (list_first_fails _ _ _ c.in_err-first.ensures.answer)

pub returns-in_err-first-clause-stands : goal.returns-in_err-first-clause-stands
returns-in_err-first-clause-stands c = err_passed_on (StandsEnumerators c.args.depth c.args.tokens.now) _ c.in_err-first.field-0.0 c.from_residual.ensures.1
    (list_first_stands _ _ _ c.in_err-first.ensures.stands)

pub loop-after-init : goal.loop-after-init
loop-after-init c = record {
  shorter = c.in_ok-first.ensures.shorter;
  read = rw (c.in_ok-push.ensures.items, c.new-list.ensures.items)
      (list_begins _ _ _ _ _ c.in_ok-first.ensures.answer);
}

pub returns-in_err-next-clause-answer : goal.returns-in_err-next-clause-answer
returns-in_err-next-clause-answer c = passed_on (AnswersEnumerators c.args.depth c.args.tokens.now) _ c.in_err-next.field-0.0
    c.from_residual-in_err-next.ensures.1 (list_more_fails _ _ _ _ _ _ _ _ c.in-Some.ensures.0 c.in-Some.ensures.1 c.loop-after.invariant.read
    c.in_err-next.ensures.answer)

pub returns-in_err-next-clause-stands : goal.returns-in_err-next-clause-stands
returns-in_err-next-clause-stands c = err_passed_on (StandsEnumerators c.args.depth c.args.tokens.now) _ c.in_err-next.field-0.0
    c.from_residual-in_err-next.ensures.1 (list_more_stands _ _ _ _ _ _ _ _ c.in-Some.ensures.0 c.loop-after.invariant.read c.in_err-next.ensures.stands)

pub loop-after-preserved : goal.loop-after-preserved
loop-after-preserved c = record {
  shorter = omega (arith, c.in_ok-next.ensures.shorter, ap length c.in-Some.ensures.0, c.loop-after.invariant.shorter);
  read = rw (c.in_ok-push-2.ensures.items, map-append enumerator_of c.loop-after.list.items (c.in_ok-next.next.enumerator ∷ []))
      (list_more _ _ _ _ _ _ _ _ c.in_ok-next.next.depth _ _ c.in-Some.ensures.0 c.in-Some.ensures.1 c.loop-after.invariant.read c.in_ok-next.ensures.answer
      c.max-deepest.ensures);
}

pub returns-in_err-rest-clause-answer : goal.returns-in_err-rest-clause-answer
returns-in_err-rest-clause-answer c = passed_on (AnswersEnumerators c.args.depth c.args.tokens.now) _ c.in_err-rest.field-0.0
    c.from_residual-in_err-rest.ensures.1 (list_open _ _ _ _ _ _ c.in_default.ensures c.in_err-rest.ensures.err c.loop-after.invariant.read)

pub returns-clause-answer : goal.returns-clause-answer
returns-clause-answer c = list_ends _ _ _ _ _ _ _ _ c.in_default.ensures c.in_ok-rest.ensures.ok.2 c.in_ok-rest.ensures.ok.3 c.loop-after.invariant.read
