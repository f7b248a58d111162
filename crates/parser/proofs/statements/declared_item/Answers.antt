use Rattle.parser.specs.inside.StmtParts.{AnswersPiece, StandsPiece}
use Rattle.parser_grammar.proofs.Exits.{passed_on, err_passed_on}
use Rattle.parser.proofs.BlockParts.{local_reads, local_fails, local_stands}
use Rattle.parser.proofs.statements.declared_item.Goals as goal

pub returns-in_err-part-clause-answer : goal.returns-in_err-part-clause-answer
returns-in_err-part-clause-answer c = passed_on (AnswersPiece c.args.depth c.args.tokens.now) _ c.in_err-part.field-0.0 c.from_residual.ensures.1
    (local_fails _ _ _ c.requires.begins c.in_err-part.ensures.answer)

pub returns-in_err-part-clause-stands : goal.returns-in_err-part-clause-stands
returns-in_err-part-clause-stands c = err_passed_on (StandsPiece c.args.depth c.args.tokens.now) _ c.in_err-part.field-0.0
    c.from_residual.ensures.1 (local_stands _ _ _ c.in_err-part.ensures.stands)

pub returns-clause-answer : goal.returns-clause-answer
returns-clause-answer c = rw c.in_ok-declaration_piece.ensures.ok (local_reads _ _ _ _ _ c.requires.begins c.in_ok-part.ensures.answer, tt)
