use Rattle.std.proofs.Common.{IfErr}
use Rattle.parser_grammar.specs.declared.scope.Scope.TheVariants.{File}
use Rattle.parser_declarations.specs.inside.ItemAnswers.{StandsItems}
use Rattle.parser_declarations.specs.inside.DeclarationFronts.{AnswersTail}
use Rattle.parser_grammar.proofs.Exits.{passed_on}
use Rattle.parser_declarations.proofs.ItemFacts.{items_first_stands, items_further_stands}
use Rattle.parser_declarations.proofs.HeadFacts.{tail_none, tail_fails, tail_defined, tail_further_fails, tail_reads}
use Rattle.parser_declarations.proofs.declarations.tail_front.Goals as goal

pub returns-in-Some-clause-answer : goal.returns-in-Some-clause-answer
returns-in-Some-clause-answer c = (rw c.new.ensures.items (tail_none _ _ _ _ c.requires c.in-Some.ensures), tt)

pub returns-in_err-first-clause-answer : goal.returns-in_err-first-clause-answer
returns-in_err-first-clause-answer c = passed_on (AnswersTail c.args.depth c.args.tokens.now) _ c.in_err-first.field-0.0 c.from_residual.ensures.1
    (tail_fails _ _ _ c.in_default.ensures c.in_err-first.ensures.answer)

pub returns-in_err-first-clause-stands : goal.returns-in_err-first-clause-stands
returns-in_err-first-clause-stands c = passed_on (λ r. IfErr r (λ f. StandsItems File c.args.depth c.args.tokens.now f)) _ c.in_err-first.field-0.0
    c.from_residual.ensures.1 (items_first_stands _ _ _ _ c.in_err-first.ensures.stands)

pub returns-in-Some-sign_front-clause-answer : goal.returns-in-Some-sign_front-clause-answer
returns-in-Some-sign_front-clause-answer c = tail_defined _ _ _ _ _ _ c.defined.result c.in_default.ensures c.in_ok-first.ensures.answer
    (_, c.in-Some-sign_front.ensures) c.defined.ensures.ok c.defined.ensures.brace c.defined.ensures.depth c.defined.ensures.rest c.defined.ensures.err

pub returns-in_err-further-clause-answer : goal.returns-in_err-further-clause-answer
returns-in_err-further-clause-answer c = passed_on (AnswersTail c.args.depth c.args.tokens.now) _ c.in_err-further.field-0.0
    c.from_residual-in_err-further.ensures.1 (tail_further_fails _ _ _ _ _ _ c.in_default.ensures c.in_default-sign_front.ensures c.in_ok-first.ensures.answer
    c.in_err-further.ensures.answer)

pub returns-in_err-further-clause-stands : goal.returns-in_err-further-clause-stands
returns-in_err-further-clause-stands c = passed_on (λ r. IfErr r (λ f. StandsItems File c.args.depth c.args.tokens.now f)) _ c.in_err-further.field-0.0
    c.from_residual-in_err-further.ensures.1 (items_further_stands _ _ _ _ _ _ _ c.in_ok-first.ensures.answer c.in_err-further.ensures.stands)

pub returns-clause-answer : goal.returns-clause-answer
returns-clause-answer c = (
  rw c.in_ok-further.ensures.answer.1 (tail_reads _ _ _ c.in_ok-first.first.depth _ _ c.in_ok-further.further.depth _ _
      c.in_default.ensures c.in_default-sign_front.ensures c.in_ok-first.ensures.answer c.in_ok-further.ensures.answer.2 c.max.ensures),
  tt,
)
