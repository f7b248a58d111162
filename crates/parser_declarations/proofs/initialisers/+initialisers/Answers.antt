use Rattle.std.proofs.Common.{[], ◌∷◌, length, sym, ap, arith, IfErr}
use Rattle.std.proofs.lemmas.List.{map-append}
use Rattle.tree.specs.View.{init_of}
use Rattle.parser_declarations.specs.inside.InitAnswers.{AnswersInit, StandsInit, AnswersInitList, StandsInitList}
use Rattle.parser_grammar.proofs.Exits.{passed_on}
use Rattle.parser_declarations.proofs.InitFacts.{init_One, init_List, one_fails, one_stands, one_reads, braced_full, braced_full_stands, braced_fails, braced_stands, braced_reads, inits_first_fails, inits_first_stands, inits_begin, inits_more, inits_more_fails, inits_more_stands, inits_stuck, inits_end}
use Rattle.parser_declarations.proofs.initialisers.+initialisers.Goals as goal

pub initialiser-returns-in_err-one-clause-answer : goal.initialiser-returns-in_err-one-clause-answer
initialiser-returns-in_err-one-clause-answer t c = passed_on (AnswersInit c.args.depth c.args.tokens.now) _ c.in_err-one.field-0.0 c.from_residual.ensures.1
    (one_fails _ _ _ c.in_default.ensures c.in_err-one.ensures.answer)

pub initialiser-returns-in_err-one-clause-stands : goal.initialiser-returns-in_err-one-clause-stands
initialiser-returns-in_err-one-clause-stands t c = passed_on (λ r. IfErr r (λ f. StandsInit c.args.depth c.args.tokens.now f)) _ c.in_err-one.field-0.0
    c.from_residual.ensures.1 (one_stands _ _ _ c.in_err-one.ensures.stands)

pub initialiser-returns-in_default-clause-answer : goal.initialiser-returns-in_default-clause-answer
initialiser-returns-in_default-clause-answer t c = rw (init_One c.in_ok-one.one.expr) (one_reads _ _ _ _ _ c.in_default.ensures c.in_ok-one.ensures.answer)

pub initialiser-returns-in_err-below-clause-answer : goal.initialiser-returns-in_err-below-clause-answer
initialiser-returns-in_err-below-clause-answer t c = passed_on (AnswersInit c.args.depth c.args.tokens.now) _ c.in_err-below.field-0.0
    c.from_residual-in_err-below.ensures.1 (braced_full _ _ _ _ _ c.in-Some.ensures c.in_err-below.ensures.err.1 c.in_err-below.ensures.err.0)

pub initialiser-returns-in_err-below-clause-stands : goal.initialiser-returns-in_err-below-clause-stands
initialiser-returns-in_err-below-clause-stands t c = passed_on (λ r. IfErr r (λ f. StandsInit c.args.depth c.args.tokens.now f)) _ c.in_err-below.field-0.0
    c.from_residual-in_err-below.ensures.1 (braced_full_stands _ _ _ _ _ c.in-Some.ensures c.in_err-below.ensures.err.1 c.in_err-below.ensures.err.0)

pub initialiser-returns-in_err-parts-clause-answer : goal.initialiser-returns-in_err-parts-clause-answer
initialiser-returns-in_err-parts-clause-answer t c = passed_on (AnswersInit c.args.depth c.args.tokens.now) _ c.in_err-parts.field-0.0
    c.from_residual-in_err-parts.ensures.1 (braced_fails _ _ _ _ _ c.in-Some.ensures (rw (sym c.in_ok-below.ensures.ok.1) c.in_err-parts.ensures.answer))

pub initialiser-returns-in_err-parts-clause-stands : goal.initialiser-returns-in_err-parts-clause-stands
initialiser-returns-in_err-parts-clause-stands t c = passed_on (λ r. IfErr r (λ f. StandsInit c.args.depth c.args.tokens.now f)) _ c.in_err-parts.field-0.0
    c.from_residual-in_err-parts.ensures.1 (braced_stands _ _ _ _ _ c.in-Some.ensures (rw (sym c.in_ok-below.ensures.ok.1) c.in_err-parts.ensures.stands))

pub initialiser-returns-clause-answer : goal.initialiser-returns-clause-answer
initialiser-returns-clause-answer t c = rw (init_List c.in-Some.pos c.in_ok-parts.parts.list)
    (braced_reads _ _ _ _ _ _ _ c.in-Some.ensures (rw (sym c.in_ok-below.ensures.ok.1) c.in_ok-parts.ensures.answer))

pub initialiser_list-returns-in_err-first-clause-answer : goal.initialiser_list-returns-in_err-first-clause-answer
initialiser_list-returns-in_err-first-clause-answer t c = passed_on (AnswersInitList c.args.depth c.args.tokens.now) _ c.in_err-first.field-0.0
    c.from_residual.ensures.1 (inits_first_fails _ _ _ c.in_err-first.ensures.answer)

pub initialiser_list-returns-in_err-first-clause-stands : goal.initialiser_list-returns-in_err-first-clause-stands
initialiser_list-returns-in_err-first-clause-stands t c = passed_on (λ r. IfErr r (λ f. StandsInitList c.args.depth c.args.tokens.now f)) _
    c.in_err-first.field-0.0 c.from_residual.ensures.1 (inits_first_stands _ _ _ c.in_err-first.ensures.stands)

pub initialiser_list-loop-after-init : goal.initialiser_list-loop-after-init
initialiser_list-loop-after-init t c = record {
  shorter = c.in_ok-first.ensures.shorter;
  read = rw (c.in_ok-push.ensures.items, c.new-list.ensures.items)
      (inits_begin _ _ _ _ _ c.in_ok-first.ensures.answer);
}

pub initialiser_list-returns-in_err-next-clause-answer : goal.initialiser_list-returns-in_err-next-clause-answer
initialiser_list-returns-in_err-next-clause-answer t c = passed_on (AnswersInitList c.args.depth c.args.tokens.now) _ c.in_err-next.field-0.0
    c.from_residual-in_err-next.ensures.1 (inits_more_fails _ _ _ _ _ _ _ c.in-Some.ensures c.loop-after.invariant.read c.in_err-next.ensures.answer)

pub initialiser_list-returns-in_err-next-clause-stands : goal.initialiser_list-returns-in_err-next-clause-stands
initialiser_list-returns-in_err-next-clause-stands t c = passed_on (λ r. IfErr r (λ f. StandsInitList c.args.depth c.args.tokens.now f)) _
    c.in_err-next.field-0.0 c.from_residual-in_err-next.ensures.1 (inits_more_stands _ _ _ _ _ _ _ c.in-Some.ensures c.loop-after.invariant.read
    c.in_err-next.ensures.stands)

pub initialiser_list-loop-after-preserved : goal.initialiser_list-loop-after-preserved
initialiser_list-loop-after-preserved t c = record {
  shorter = omega (
    arith,
    c.in_ok-next.ensures.shorter,
    ap length c.in-Some.ensures.1,
    c.loop-after.invariant.shorter,
  );
  read = rw (c.in_ok-push-2.ensures.items, map-append init_of c.loop-after.list.items (c.in_ok-next.next.initialiser ∷ []))
      (inits_more _ _ _ _ _ _ _ c.in_ok-next.next.depth _ _ c.in-Some.ensures c.loop-after.invariant.read c.in_ok-next.ensures.answer c.max-deepest.ensures);
}

pub initialiser_list-returns-in_err-rest-clause-answer : goal.initialiser_list-returns-in_err-rest-clause-answer
initialiser_list-returns-in_err-rest-clause-answer t c = passed_on (AnswersInitList c.args.depth c.args.tokens.now) _ c.in_err-rest.field-0.0
    c.from_residual-in_err-rest.ensures.1 (inits_stuck _ _ _ _ _ _ c.in_default.ensures c.in_err-rest.ensures.err.0 c.loop-after.invariant.read)

pub initialiser_list-returns-clause-answer : goal.initialiser_list-returns-clause-answer
initialiser_list-returns-clause-answer t c = inits_end _ _ _ _ _ _ c.in_default.ensures c.in_ok-rest.ensures.ok c.loop-after.invariant.read
