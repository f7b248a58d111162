use Rattle.std.proofs.Common.{refl}
use Rattle.parser.specs.inside.StmtParts.{AnswersStart, StandsStart}
use Rattle.parser_grammar.proofs.Exits.{passed_on, err_passed_on}
use Rattle.parser.proofs.StmtSorts.{not_true, start_local_reads, start_local_fails, start_local_stands, start_with_reads, start_with_fails, start_with_stands}
use Rattle.parser.proofs.statement_parts.for_start.Goals as goal

pub returns-in_err-part-clause-answer : goal.returns-in_err-part-clause-answer
returns-in_err-part-clause-answer c = passed_on (AnswersStart c.args.depth c.args.tokens.now) _ c.in_err-part.field-0.0 c.from_residual.ensures.1
    (start_local_fails _ _ _ (c.if-begins_declaration.ensures.0 refl) c.in_err-part.ensures.answer)

pub returns-in_err-part-clause-stands : goal.returns-in_err-part-clause-stands
returns-in_err-part-clause-stands c = err_passed_on (StandsStart c.args.depth c.args.tokens.now) _ c.in_err-part.field-0.0 c.from_residual.ensures.1
    (start_local_stands _ _ _ c.in_err-part.ensures.stands)

pub returns-then-begins_declaration-clause-answer : goal.returns-then-begins_declaration-clause-answer
returns-then-begins_declaration-clause-answer c = start_local_reads _ _ _ _ _ (c.if-begins_declaration.ensures.0 refl) c.in_ok-part.ensures.answer

pub returns-in_err-part-2-clause-answer : goal.returns-in_err-part-2-clause-answer
returns-in_err-part-2-clause-answer c = passed_on (AnswersStart c.args.depth c.args.tokens.now) _ c.in_err-part-2.field-0.0
    c.from_residual-in_err-part-2.ensures.1 (start_with_fails _ _ _ (λ b. not_true (c.if-begins_declaration.ensures.1 b)) c.in_err-part-2.ensures.answer)

pub returns-in_err-part-2-clause-stands : goal.returns-in_err-part-2-clause-stands
returns-in_err-part-2-clause-stands c = err_passed_on (StandsStart c.args.depth c.args.tokens.now) _ c.in_err-part-2.field-0.0
    c.from_residual-in_err-part-2.ensures.1 (start_with_stands _ _ _ c.in_err-part-2.ensures.stands)

pub returns-clause-answer : goal.returns-clause-answer
returns-clause-answer c = start_with_reads _ _ _ _ _ (λ b. not_true (c.if-begins_declaration.ensures.1 b)) c.in_ok-part-2.ensures.answer
