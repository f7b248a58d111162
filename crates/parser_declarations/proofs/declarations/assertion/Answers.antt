use Rattle.std.proofs.Common.{◌+◌, sym, IfErr}
use Rattle.tree.specs.View.{tree_of}
use Rattle.parser_expressions.specs.ExpressionAnswers.{Reads}
use Rattle.parser_declarations.specs.inside.DeclarationFronts.{AnswersAsserted, StandsAsserted}
use Rattle.parser_grammar.proofs.Exits.{passed_on}
use Rattle.parser_declarations.proofs.DeclarationFacts.{asserted_full, asserted_full_stands, asserted_open, asserted_fails, asserted_stands, asserted_no_text, asserted_reads}
use Rattle.parser_declarations.proofs.declarations.assertion.Goals as goal

pub returns-in_err-below-clause-answer : goal.returns-in_err-below-clause-answer
returns-in_err-below-clause-answer c = passed_on (AnswersAsserted c.args.depth c.args.pos c.args.tokens.now) _ c.in_err-below.field-0.0
    c.from_residual.ensures.1 (asserted_full _ _ _ _ c.in_err-below.ensures.err.1 c.in_err-below.ensures.err.0)

pub returns-in_err-below-clause-stands : goal.returns-in_err-below-clause-stands
returns-in_err-below-clause-stands c = passed_on (λ r. IfErr r (λ f. StandsAsserted c.args.depth c.args.pos c.args.tokens.now f)) _ c.in_err-below.field-0.0
    c.from_residual.ensures.1 (asserted_full_stands _ _ _ _ c.in_err-below.ensures.err.1 c.in_err-below.ensures.err.0)

pub returns-in_err-rest-clause-answer : goal.returns-in_err-rest-clause-answer
returns-in_err-rest-clause-answer c = passed_on (AnswersAsserted c.args.depth c.args.pos c.args.tokens.now) _ c.in_err-rest.field-0.0
    c.from_residual-in_err-rest.ensures.1 (asserted_open _ _ _ _ c.in_err-rest.ensures.err.0)

pub returns-in_err-condition-clause-answer : goal.returns-in_err-condition-clause-answer
returns-in_err-condition-clause-answer c = passed_on (AnswersAsserted c.args.depth c.args.pos c.args.tokens.now) _ c.in_err-condition.field-0.0
    c.from_residual-in_err-condition.ensures.1 (asserted_fails _ _ _ _ _ _ c.in_ok-rest.ensures.ok.1
    (rw (sym c.in_ok-below.ensures.ok.1) c.in_err-condition.ensures.answer))

pub returns-in_err-condition-clause-stands : goal.returns-in_err-condition-clause-stands
returns-in_err-condition-clause-stands c = passed_on (λ r. IfErr r (λ f. StandsAsserted c.args.depth c.args.pos c.args.tokens.now f)) _
    c.in_err-condition.field-0.0 c.from_residual-in_err-condition.ensures.1
    (asserted_stands _ _ _ _ _ _ c.in_ok-rest.ensures.ok.1 (rw (sym c.in_ok-below.ensures.ok.1) c.in_err-condition.ensures.stands))

pub returns-in_err-text-clause-answer : goal.returns-in_err-text-clause-answer
returns-in_err-text-clause-answer c = let h : Reads 2 (c.args.depth + 1) c.in_ok-rest.rest.now (tree_of c.in_ok-condition.condition.expr)
    c.in_ok-condition.condition.depth c.in_ok-condition.condition.rest.now = rw (sym c.in_ok-below.ensures.ok.1) c.in_ok-condition.ensures.answer in
    passed_on (AnswersAsserted c.args.depth c.args.pos c.args.tokens.now) _ c.in_err-text.field-0.0 c.from_residual-in_err-text.ensures.1
    (asserted_no_text _ _ _ _ _ _ _ _ _ c.in_ok-rest.ensures.ok.1 h c.in_err-text.ensures.err.0)

pub returns-clause-answer : goal.returns-clause-answer
returns-clause-answer c = let h : Reads 2 (c.args.depth + 1) c.in_ok-rest.rest.now (tree_of c.in_ok-condition.condition.expr) c.in_ok-condition.condition.depth
    c.in_ok-condition.condition.rest.now = rw (sym c.in_ok-below.ensures.ok.1) c.in_ok-condition.ensures.answer in asserted_reads _ _ _ _ _ _ _ _ _ _
    c.in_ok-rest.ensures.ok.1 h c.in_ok-text.ensures.ok
