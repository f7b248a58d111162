use Rattle.std.proofs.Common.{IfErr}
use Rattle.parser_declarations.specs.DeclarationAnswers.{AnswersDeclaration, StandsDeclaration}
use Rattle.parser_grammar.proofs.Exits.{passed_on}
use Rattle.parser_declarations.proofs.DeclarationFacts.{asserted_block, asserted_block_stands, specifiers_stand, items_stand, declared_items_fail, declared_reads}
use Rattle.parser_declarations.proofs.declarations.declaration.Goals as goal

pub returns-in-Some-clause-answer : goal.returns-in-Some-clause-answer
returns-in-Some-clause-answer c = asserted_block _ _ _ _ c.assertion.result c.in-Some.ensures c.assertion.ensures.answer

pub returns-in-Some-clause-stands : goal.returns-in-Some-clause-stands
returns-in-Some-clause-stands c = asserted_block_stands _ _ _ _ c.assertion.result c.in-Some.ensures c.assertion.ensures.stands

pub returns-in_err-specifiers-clause-stands : goal.returns-in_err-specifiers-clause-stands
returns-in_err-specifiers-clause-stands c = passed_on (λ r. IfErr r (λ f. StandsDeclaration c.args.depth c.args.tokens.now f)) _ c.in_err-specifiers.field-0.0
    c.from_residual.ensures.1 (specifiers_stand _ _ _ _ c.requires c.in_err-specifiers.ensures.stands)

pub returns-in_err-items-clause-answer : goal.returns-in_err-items-clause-answer
returns-in_err-items-clause-answer c = passed_on (AnswersDeclaration c.args.depth c.args.tokens.now) _ c.in_err-items.field-0.0
    c.from_residual-in_err-items.ensures.1 (declared_items_fail _ _ _ _ _ _ _ _ c.in_default.ensures c.in_ok-specifiers.ensures.answer.0
    c.in_ok-specifiers.ensures.answer.1 c.in_err-items.ensures.answer)

pub returns-in_err-items-clause-stands : goal.returns-in_err-items-clause-stands
returns-in_err-items-clause-stands c = passed_on (λ r. IfErr r (λ f. StandsDeclaration c.args.depth c.args.tokens.now f)) _ c.in_err-items.field-0.0
    c.from_residual-in_err-items.ensures.1 (items_stand _ _ _ _ _ _ _ _ c.in_ok-specifiers.ensures.answer.0 c.in_ok-specifiers.ensures.answer.1
    c.in_err-items.ensures.stands)

pub returns-clause-answer : goal.returns-clause-answer
returns-clause-answer c = declared_reads _ _ _ _ _ c.in_ok-specifiers.specifiers.depth _ _ c.in_ok-items.items.depth _ _ c.in_default.ensures
    c.in_ok-specifiers.ensures.answer.0 c.in_ok-specifiers.ensures.answer.1 c.in_ok-items.ensures.answer c.max-depth.ensures
