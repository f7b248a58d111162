use Rattle.std.proofs.Common.{[], ◌∷◌, ◌++◌, length, map, ap, ◌∙◌, arith, IfErr}
use Rattle.std.proofs.lemmas.List.{map-append}
use Rattle.tree.specs.View.{item_of}
use Rattle.parser_declarations.specs.inside.ItemAnswers.{AnswersFurther, StandsFurther}
use Rattle.parser_grammar.proofs.Exits.{passed_on}
use Rattle.parser_declarations.proofs.ItemFacts.{further_starts, further_more, further_fails, further_stands, further_stuck, further_reads}
use Rattle.parser_declarations.proofs.items.further_items.Goals as goal

pub loop-after-init : goal.loop-after-init
loop-after-init c = record {
  no_longer = omega arith;
  read = (
    [],
    ap (map item_of) (c.in_ok-push.ensures.items ∙ ap (λ z. z ++ c.args.first ∷ [])
        c.new-items.ensures.items),
    further_starts _ _ _ c.requires,
  );
}

pub returns-in_err-next-clause-answer : goal.returns-in_err-next-clause-answer
returns-in_err-next-clause-answer c = passed_on (AnswersFurther c.args.scope c.args.depth (item_of c.args.first) c.args.tokens.now) _ c.in_err-next.field-0.0
    c.from_residual-in_err-next.ensures.1 (further_fails _ _ _ _ _ _ _ _ _ c.in-Some.ensures c.loop-after.invariant.read.2 c.in_err-next.ensures.answer)

pub returns-in_err-next-clause-stands : goal.returns-in_err-next-clause-stands
returns-in_err-next-clause-stands c = passed_on (λ r. IfErr r (λ f. StandsFurther c.args.scope c.args.depth c.args.tokens.now f)) _ c.in_err-next.field-0.0
    c.from_residual-in_err-next.ensures.1 (further_stands _ _ _ _ _ _ _ _ _ c.in-Some.ensures c.loop-after.invariant.read.2 c.in_err-next.ensures.stands)

pub loop-after-preserved : goal.loop-after-preserved
loop-after-preserved c = record {
  no_longer = omega (arith, c.in_ok-next.ensures.shorter, ap length c.in-Some.ensures, c.loop-after.invariant.no_longer);
  read = (
    c.loop-after.invariant.read.0 ++ item_of c.in_ok-next.next.item ∷ [],
    ap (map item_of) c.in_ok-push-2.ensures.items
        ∙ map-append item_of c.loop-after.items.items (c.in_ok-next.next.item ∷ []) ∙ ap (λ z. z ++ item_of c.in_ok-next.next.item ∷ [])
        c.loop-after.invariant.read.1,
    further_more _ _ _ _ _ _ _ _ _ c.in_ok-next.next.depth _ _ c.in-Some.ensures c.loop-after.invariant.read.2
        c.in_ok-next.ensures.answer c.max-deepest.ensures,
  );
}

pub returns-in_err-rest-clause-answer : goal.returns-in_err-rest-clause-answer
returns-in_err-rest-clause-answer c = passed_on (AnswersFurther c.args.scope c.args.depth (item_of c.args.first) c.args.tokens.now) _ c.in_err-rest.field-0.0
    c.from_residual-in_err-rest.ensures.1 (further_stuck _ _ _ _ _ _ _ c.in_default.ensures c.in_err-rest.ensures.err.0 c.loop-after.invariant.read.2)

pub returns-clause-answer : goal.returns-clause-answer
returns-clause-answer c = (
  c.loop-after.invariant.read.0,
  c.loop-after.invariant.read.1,
  further_reads _ _ _ _ _ _ _ _ c.in_default.ensures
      c.in_ok-rest.ensures.ok.1 c.loop-after.invariant.read.2,
)
