use Rattle.std.proofs.Common.{IfErr}
use Rattle.parser_declarations.specs.inside.ItemAnswers.{AnswersItems, StandsItems}
use Rattle.parser_grammar.proofs.Exits.{passed_on}
use Rattle.parser_declarations.proofs.ItemFacts.{items_none, items_first_fails, items_first_stands, items_further_fails, items_further_stands, items_read}
use Rattle.parser_declarations.proofs.items.items.Goals as goal

pub returns-in-Some-clause-answer : goal.returns-in-Some-clause-answer
returns-in-Some-clause-answer c = rw c.new.ensures.items (items_none _ _ _ _ _ c.requires c.in-Some.ensures)

pub returns-in_err-first-clause-answer : goal.returns-in_err-first-clause-answer
returns-in_err-first-clause-answer c = passed_on (AnswersItems c.args.scope c.args.depth c.args.tokens.now) _ c.in_err-first.field-0.0 c.from_residual.ensures.1
    (items_first_fails _ _ _ _ c.in_default.ensures c.in_err-first.ensures.answer)

pub returns-in_err-first-clause-stands : goal.returns-in_err-first-clause-stands
returns-in_err-first-clause-stands c = passed_on (λ r. IfErr r (λ f. StandsItems c.args.scope c.args.depth c.args.tokens.now f)) _ c.in_err-first.field-0.0
    c.from_residual.ensures.1 (items_first_stands _ _ _ _ c.in_err-first.ensures.stands)

pub returns-in_err-further-clause-answer : goal.returns-in_err-further-clause-answer
returns-in_err-further-clause-answer c = passed_on (AnswersItems c.args.scope c.args.depth c.args.tokens.now) _ c.in_err-further.field-0.0
    c.from_residual-in_err-further.ensures.1 (items_further_fails _ _ _ _ _ _ _ c.in_default.ensures c.in_ok-first.ensures.answer
    c.in_err-further.ensures.answer)

pub returns-in_err-further-clause-stands : goal.returns-in_err-further-clause-stands
returns-in_err-further-clause-stands c = passed_on (λ r. IfErr r (λ f. StandsItems c.args.scope c.args.depth c.args.tokens.now f)) _ c.in_err-further.field-0.0
    c.from_residual-in_err-further.ensures.1 (items_further_stands _ _ _ _ _ _ _ c.in_ok-first.ensures.answer c.in_err-further.ensures.stands)

pub returns-clause-answer : goal.returns-clause-answer
returns-clause-answer c = rw c.in_ok-further.ensures.answer.1 (items_read _ _ _ _ c.in_ok-first.first.depth _ _ c.in_ok-further.further.depth _ _
    c.in_default.ensures c.in_ok-first.ensures.answer c.in_ok-further.ensures.answer.2 c.max.ensures)
