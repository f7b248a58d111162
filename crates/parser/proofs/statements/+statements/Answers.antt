use Rattle.std.proofs.Common.{◌+◌, [], ◌∷◌, refl, ap, arith}
use Rattle.std.proofs.lemmas.List.{map-append}
use Rattle.tree.specs.View.{piece_of}
use Rattle.parser.specs.inside.StatementAnswers.{AnswersStmt, StandsStmt, AnswersBody, StandsBody}
use Rattle.parser.specs.inside.StmtParts.{AnswersLabelled, StandsLabelled, AnswersTested, StandsTested, AnswersPiece, StandsPiece}
use Rattle.parser_grammar.proofs.Exits.{passed_on, err_passed_on}
use Rattle.parser.proofs.StmtSequence.{full_stmt}
use Rattle.parser.proofs.StmtSorts.{not_true}
use Rattle.parser.proofs.StmtIf.{if_full, if_first_fails, if_first_stands, if_second_fails, if_second_stands}
use Rattle.parser.proofs.BlockParts.{run_reads, run_fails, run_stands, block_starts, block_goes_on, block_fails, block_stands, block_ends}
use Rattle.parser.proofs.StmtExits.{block_full, block_fail, block_stand, block_reads, tested_test_fails, tested_test_stands, tested_body_fails, tested_body_stands, tested_reads, switch_full, switch_fails, switch_stands, switch_reads, while_full, while_fails, while_stands, while_reads, branch_reads, branches_read, labelled_fails, labelled_stands, labelled_reads, default_full, default_fails, default_stands, default_reads, case_full, case_value_fails, case_value_stands, case_body_fails, case_body_stands, case_reads, do_full, do_body_fails, do_body_stands, do_test_fails, do_test_stands, do_reads, for_full, for_head_fails, for_head_stands, for_body_fails, for_body_stands, for_reads}
use Rattle.parser.proofs.statements.+statements.Goals as goal

pub block-returns-in_err-below-clause-answer : goal.block-returns-in_err-below-clause-answer
block-returns-in_err-below-clause-answer t c = passed_on (AnswersStmt c.args.depth _) _ c.in_err-below.field-0.0 c.from_residual.ensures.1
    (full_stmt _ _ _ _ c.in_err-below.ensures.err.0 c.in_err-below.ensures.err.1)

pub block-returns-in_err-below-clause-stands : goal.block-returns-in_err-below-clause-stands
block-returns-in_err-below-clause-stands t c = err_passed_on (StandsStmt c.args.depth _) _ c.in_err-below.field-0.0 c.from_residual.ensures.1
    (block_full _ _ _ _ c.in_err-below.ensures.err.0 c.in_err-below.ensures.err.1)

pub if_statement-returns-in_err-below-clause-answer : goal.if_statement-returns-in_err-below-clause-answer
if_statement-returns-in_err-below-clause-answer t c = passed_on (AnswersStmt c.args.depth _) _ c.in_err-below.field-0.0 c.from_residual.ensures.1
    (full_stmt _ _ _ _ c.in_err-below.ensures.err.0 c.in_err-below.ensures.err.1)

pub if_statement-returns-in_err-below-clause-stands : goal.if_statement-returns-in_err-below-clause-stands
if_statement-returns-in_err-below-clause-stands t c = err_passed_on (StandsStmt c.args.depth _) _ c.in_err-below.field-0.0 c.from_residual.ensures.1
    (if_full _ _ _ _ _ refl c.in_err-below.ensures.err.0 c.in_err-below.ensures.err.1)

pub switch_statement-returns-in_err-below-clause-answer : goal.switch_statement-returns-in_err-below-clause-answer
switch_statement-returns-in_err-below-clause-answer t c = passed_on (AnswersStmt c.args.depth _) _ c.in_err-below.field-0.0 c.from_residual.ensures.1
    (full_stmt _ _ _ _ c.in_err-below.ensures.err.0 c.in_err-below.ensures.err.1)

pub switch_statement-returns-in_err-below-clause-stands : goal.switch_statement-returns-in_err-below-clause-stands
switch_statement-returns-in_err-below-clause-stands t c = err_passed_on (StandsStmt c.args.depth _) _ c.in_err-below.field-0.0 c.from_residual.ensures.1
    (switch_full _ _ _ _ c.in_err-below.ensures.err.0 c.in_err-below.ensures.err.1)

pub while_statement-returns-in_err-below-clause-answer : goal.while_statement-returns-in_err-below-clause-answer
while_statement-returns-in_err-below-clause-answer t c = passed_on (AnswersStmt c.args.depth _) _ c.in_err-below.field-0.0 c.from_residual.ensures.1
    (full_stmt _ _ _ _ c.in_err-below.ensures.err.0 c.in_err-below.ensures.err.1)

pub while_statement-returns-in_err-below-clause-stands : goal.while_statement-returns-in_err-below-clause-stands
while_statement-returns-in_err-below-clause-stands t c = err_passed_on (StandsStmt c.args.depth _) _ c.in_err-below.field-0.0 c.from_residual.ensures.1
    (while_full _ _ _ _ c.in_err-below.ensures.err.0 c.in_err-below.ensures.err.1)

pub case_statement-returns-in_err-below-clause-answer : goal.case_statement-returns-in_err-below-clause-answer
case_statement-returns-in_err-below-clause-answer t c = passed_on (AnswersStmt c.args.depth _) _ c.in_err-below.field-0.0 c.from_residual.ensures.1
    (full_stmt _ _ _ _ c.in_err-below.ensures.err.0 c.in_err-below.ensures.err.1)

pub case_statement-returns-in_err-below-clause-stands : goal.case_statement-returns-in_err-below-clause-stands
case_statement-returns-in_err-below-clause-stands t c = err_passed_on (StandsStmt c.args.depth _) _ c.in_err-below.field-0.0 c.from_residual.ensures.1
    (case_full _ _ _ _ c.in_err-below.ensures.err.0 c.in_err-below.ensures.err.1)

pub default_statement-returns-in_err-below-clause-answer : goal.default_statement-returns-in_err-below-clause-answer
default_statement-returns-in_err-below-clause-answer t c = passed_on (AnswersStmt c.args.depth _) _ c.in_err-below.field-0.0 c.from_residual.ensures.1
    (full_stmt _ _ _ _ c.in_err-below.ensures.err.0 c.in_err-below.ensures.err.1)

pub default_statement-returns-in_err-below-clause-stands : goal.default_statement-returns-in_err-below-clause-stands
default_statement-returns-in_err-below-clause-stands t c = err_passed_on (StandsStmt c.args.depth _) _ c.in_err-below.field-0.0 c.from_residual.ensures.1
    (default_full _ _ _ _ c.in_err-below.ensures.err.0 c.in_err-below.ensures.err.1)

pub do_statement-returns-in_err-below-clause-answer : goal.do_statement-returns-in_err-below-clause-answer
do_statement-returns-in_err-below-clause-answer t c = passed_on (AnswersStmt c.args.depth _) _ c.in_err-below.field-0.0 c.from_residual.ensures.1
    (full_stmt _ _ _ _ c.in_err-below.ensures.err.0 c.in_err-below.ensures.err.1)

pub do_statement-returns-in_err-below-clause-stands : goal.do_statement-returns-in_err-below-clause-stands
do_statement-returns-in_err-below-clause-stands t c = err_passed_on (StandsStmt c.args.depth _) _ c.in_err-below.field-0.0 c.from_residual.ensures.1
    (do_full _ _ _ _ c.in_err-below.ensures.err.0 c.in_err-below.ensures.err.1)

pub for_statement-returns-in_err-below-clause-answer : goal.for_statement-returns-in_err-below-clause-answer
for_statement-returns-in_err-below-clause-answer t c = passed_on (AnswersStmt c.args.depth _) _ c.in_err-below.field-0.0 c.from_residual.ensures.1
    (full_stmt _ _ _ _ c.in_err-below.ensures.err.0 c.in_err-below.ensures.err.1)

pub for_statement-returns-in_err-below-clause-stands : goal.for_statement-returns-in_err-below-clause-stands
for_statement-returns-in_err-below-clause-stands t c = err_passed_on (StandsStmt c.args.depth _) _ c.in_err-below.field-0.0 c.from_residual.ensures.1
    (for_full _ _ _ _ c.in_err-below.ensures.err.0 c.in_err-below.ensures.err.1)

pub block-returns-in_err-body-clause-answer : goal.block-returns-in_err-body-clause-answer
block-returns-in_err-body-clause-answer t c = passed_on (AnswersStmt c.args.depth _) _ c.in_err-body.field-0.0 c.from_residual-in_err-body.ensures.1
    (block_fail _ _ _ _ _ c.in_ok-below.ensures.ok.1 c.in_err-body.ensures.answer)

pub block-returns-in_err-body-clause-stands : goal.block-returns-in_err-body-clause-stands
block-returns-in_err-body-clause-stands t c = err_passed_on (StandsStmt c.args.depth _) _ c.in_err-body.field-0.0 c.from_residual-in_err-body.ensures.1
    (block_stand _ _ _ _ _ c.in_ok-below.ensures.ok.1 c.in_err-body.ensures.stands)

pub block-returns-clause-answer : goal.block-returns-clause-answer
block-returns-clause-answer t c = rw c.in_ok-block_node.ensures.ok (block_reads _ _ _ _ c.in_ok-body.body.items _ _ c.in_ok-below.ensures.ok.1 c.in_ok-body.ensures.answer)

pub if_statement-returns-in_err-first-clause-answer : goal.if_statement-returns-in_err-first-clause-answer
if_statement-returns-in_err-first-clause-answer t c = passed_on (AnswersStmt c.args.depth _) _ c.in_err-first.field-0.0 c.from_residual-in_err-first.ensures.1
    (if_first_fails _ _ _ _ _ _ refl c.in_ok-below.ensures.ok.1 c.in_err-first.ensures.answer)

pub if_statement-returns-in_err-first-clause-stands : goal.if_statement-returns-in_err-first-clause-stands
if_statement-returns-in_err-first-clause-stands t c = err_passed_on (StandsStmt c.args.depth _) _ c.in_err-first.field-0.0
    c.from_residual-in_err-first.ensures.1 (if_first_stands _ _ _ _ _ _ refl c.in_ok-below.ensures.ok.1 c.in_err-first.ensures.stands)

pub if_statement-returns-in_default-clause-answer : goal.if_statement-returns-in_default-clause-answer
if_statement-returns-in_default-clause-answer t c = rw c.in_ok-if_node.ensures.ok
    (branch_reads _ _ _ _ c.in_ok-first.first.test c.in_ok-first.first.body.value _ _ c.in_ok-below.ensures.ok.1 c.in_ok-first.ensures.answer c.in_default.ensures)

pub if_statement-returns-in_err-second-clause-answer : goal.if_statement-returns-in_err-second-clause-answer
if_statement-returns-in_err-second-clause-answer t c = passed_on (AnswersStmt c.args.depth _) _ c.in_err-second.field-0.0
    c.from_residual-in_err-second.ensures.1 (if_second_fails _ _ _ _ _ _ _ _ _ _ _ refl c.in_ok-below.ensures.ok.1 c.in_ok-first.ensures.answer.0
    c.in-Some.ensures c.in_err-second.ensures.answer)

pub if_statement-returns-in_err-second-clause-stands : goal.if_statement-returns-in_err-second-clause-stands
if_statement-returns-in_err-second-clause-stands t c = err_passed_on (StandsStmt c.args.depth _) _ c.in_err-second.field-0.0
    c.from_residual-in_err-second.ensures.1 (if_second_stands _ _ _ _ _ _ _ _ _ _ _ refl c.in_ok-below.ensures.ok.1 c.in_ok-first.ensures.answer.0
    c.in_ok-first.ensures.answer.1 c.in-Some.ensures c.in_err-second.ensures.stands)

pub if_statement-returns-clause-answer : goal.if_statement-returns-clause-answer
if_statement-returns-clause-answer t c = rw c.in_ok-if_else_node.ensures.ok (branches_read _ _ _ _ _ c.in_ok-first.first.test c.in_ok-first.first.body.value c.in_ok-second.second.stmt.value _ _ _ _ _ _ c.in_ok-below.ensures.ok.1
    c.in_ok-first.ensures.answer c.in-Some.ensures c.in_ok-second.ensures.answer (ap (λ x. x + 1) c.max-depth.ensures))

pub switch_statement-returns-in_err-part-clause-answer : goal.switch_statement-returns-in_err-part-clause-answer
switch_statement-returns-in_err-part-clause-answer t c = passed_on (AnswersStmt c.args.depth _) _ c.in_err-part.field-0.0 c.from_residual-in_err-part.ensures.1
    (switch_fails _ _ _ _ _ c.in_ok-below.ensures.ok.1 c.in_err-part.ensures.answer)

pub switch_statement-returns-in_err-part-clause-stands : goal.switch_statement-returns-in_err-part-clause-stands
switch_statement-returns-in_err-part-clause-stands t c = err_passed_on (StandsStmt c.args.depth _) _ c.in_err-part.field-0.0
    c.from_residual-in_err-part.ensures.1 (switch_stands _ _ _ _ _ c.in_ok-below.ensures.ok.1 c.in_err-part.ensures.stands)

pub switch_statement-returns-clause-answer : goal.switch_statement-returns-clause-answer
switch_statement-returns-clause-answer t c = rw c.in_ok-switch_node.ensures.ok (switch_reads _ _ _ _ c.in_ok-part.part.test c.in_ok-part.part.body.value _ _ c.in_ok-below.ensures.ok.1 c.in_ok-part.ensures.answer)

pub while_statement-returns-in_err-part-clause-answer : goal.while_statement-returns-in_err-part-clause-answer
while_statement-returns-in_err-part-clause-answer t c = passed_on (AnswersStmt c.args.depth _) _ c.in_err-part.field-0.0 c.from_residual-in_err-part.ensures.1
    (while_fails _ _ _ _ _ c.in_ok-below.ensures.ok.1 c.in_err-part.ensures.answer)

pub while_statement-returns-in_err-part-clause-stands : goal.while_statement-returns-in_err-part-clause-stands
while_statement-returns-in_err-part-clause-stands t c = err_passed_on (StandsStmt c.args.depth _) _ c.in_err-part.field-0.0
    c.from_residual-in_err-part.ensures.1 (while_stands _ _ _ _ _ c.in_ok-below.ensures.ok.1 c.in_err-part.ensures.stands)

pub while_statement-returns-clause-answer : goal.while_statement-returns-clause-answer
while_statement-returns-clause-answer t c = rw c.in_ok-while_node.ensures.ok (while_reads _ _ _ _ c.in_ok-part.part.test c.in_ok-part.part.body.value _ _ c.in_ok-below.ensures.ok.1 c.in_ok-part.ensures.answer)

pub case_statement-returns-in_err-value-clause-answer : goal.case_statement-returns-in_err-value-clause-answer
case_statement-returns-in_err-value-clause-answer t c = passed_on (AnswersStmt c.args.depth _) _ c.in_err-value.field-0.0 c.from_residual-in_err-value.ensures.1
    (case_value_fails _ _ _ _ _ c.in_ok-below.ensures.ok.1 c.in_err-value.ensures.answer)

pub case_statement-returns-in_err-value-clause-stands : goal.case_statement-returns-in_err-value-clause-stands
case_statement-returns-in_err-value-clause-stands t c = err_passed_on (StandsStmt c.args.depth _) _ c.in_err-value.field-0.0
    c.from_residual-in_err-value.ensures.1 (case_value_stands _ _ _ _ _ c.in_ok-below.ensures.ok.1 c.in_err-value.ensures.stands)

pub case_statement-returns-in_err-body-clause-answer : goal.case_statement-returns-in_err-body-clause-answer
case_statement-returns-in_err-body-clause-answer t c = passed_on (AnswersStmt c.args.depth _) _ c.in_err-body.field-0.0 c.from_residual-in_err-body.ensures.1
    (case_body_fails _ _ _ _ _ _ _ _ c.in_ok-below.ensures.ok.1 c.in_ok-value.ensures.answer c.in_err-body.ensures.answer)

pub case_statement-returns-in_err-body-clause-stands : goal.case_statement-returns-in_err-body-clause-stands
case_statement-returns-in_err-body-clause-stands t c = err_passed_on (StandsStmt c.args.depth _) _ c.in_err-body.field-0.0 c.from_residual-in_err-body.ensures.1
    (case_body_stands _ _ _ _ _ _ _ _ c.in_ok-below.ensures.ok.1 c.in_ok-value.ensures.answer c.in_err-body.ensures.stands)

pub case_statement-returns-clause-answer : goal.case_statement-returns-clause-answer
case_statement-returns-clause-answer t c = rw c.in_ok-case_node.ensures.ok (case_reads _ _ _ _ c.in_ok-value.value.expr _ _ c.in_ok-body.body.stmt.value _ _ _ c.in_ok-below.ensures.ok.1
    c.in_ok-value.ensures.answer c.in_ok-body.ensures.answer (ap (λ x. x + 1) c.max-depth.ensures))

pub default_statement-returns-in_err-body-clause-answer : goal.default_statement-returns-in_err-body-clause-answer
default_statement-returns-in_err-body-clause-answer t c = passed_on (AnswersStmt c.args.depth _) _ c.in_err-body.field-0.0 c.from_residual-in_err-body.ensures.1
    (default_fails _ _ _ _ _ c.in_ok-below.ensures.ok.1 c.in_err-body.ensures.answer)

pub default_statement-returns-in_err-body-clause-stands : goal.default_statement-returns-in_err-body-clause-stands
default_statement-returns-in_err-body-clause-stands t c = err_passed_on (StandsStmt c.args.depth _) _ c.in_err-body.field-0.0
    c.from_residual-in_err-body.ensures.1 (default_stands _ _ _ _ _ c.in_ok-below.ensures.ok.1 c.in_err-body.ensures.stands)

pub default_statement-returns-clause-answer : goal.default_statement-returns-clause-answer
default_statement-returns-clause-answer t c = rw c.in_ok-default_node.ensures.ok (default_reads _ _ _ _ c.in_ok-body.body.stmt.value _ _ c.in_ok-below.ensures.ok.1 c.in_ok-body.ensures.answer)

pub do_statement-returns-in_err-body-clause-answer : goal.do_statement-returns-in_err-body-clause-answer
do_statement-returns-in_err-body-clause-answer t c = passed_on (AnswersStmt c.args.depth _) _ c.in_err-body.field-0.0 c.from_residual-in_err-body.ensures.1
    (do_body_fails _ _ _ _ _ c.in_ok-below.ensures.ok.1 c.in_err-body.ensures.answer)

pub do_statement-returns-in_err-body-clause-stands : goal.do_statement-returns-in_err-body-clause-stands
do_statement-returns-in_err-body-clause-stands t c = err_passed_on (StandsStmt c.args.depth _) _ c.in_err-body.field-0.0 c.from_residual-in_err-body.ensures.1
    (do_body_stands _ _ _ _ _ c.in_ok-below.ensures.ok.1 c.in_err-body.ensures.stands)

pub do_statement-returns-in_err-test-clause-answer : goal.do_statement-returns-in_err-test-clause-answer
do_statement-returns-in_err-test-clause-answer t c = passed_on (AnswersStmt c.args.depth _) _ c.in_err-test.field-0.0 c.from_residual-in_err-test.ensures.1
    (do_test_fails _ _ _ _ _ _ _ _ c.in_ok-below.ensures.ok.1 c.in_ok-body.ensures.answer c.in_err-test.ensures.answer)

pub do_statement-returns-in_err-test-clause-stands : goal.do_statement-returns-in_err-test-clause-stands
do_statement-returns-in_err-test-clause-stands t c = err_passed_on (StandsStmt c.args.depth _) _ c.in_err-test.field-0.0 c.from_residual-in_err-test.ensures.1
    (do_test_stands _ _ _ _ _ _ _ _ c.in_ok-below.ensures.ok.1 c.in_ok-body.ensures.answer c.in_err-test.ensures.stands)

pub do_statement-returns-clause-answer : goal.do_statement-returns-clause-answer
do_statement-returns-clause-answer t c = rw c.in_ok-do_while_node.ensures.ok (do_reads _ _ _ _ c.in_ok-body.body.stmt.value _ _ c.in_ok-test.test.expr _ _ _ c.in_ok-below.ensures.ok.1
    c.in_ok-body.ensures.answer c.in_ok-test.ensures.answer (ap (λ x. x + 1) c.max-depth.ensures))

pub for_statement-returns-in_err-head-clause-answer : goal.for_statement-returns-in_err-head-clause-answer
for_statement-returns-in_err-head-clause-answer t c = passed_on (AnswersStmt c.args.depth _) _ c.in_err-head.field-0.0 c.from_residual-in_err-head.ensures.1
    (for_head_fails _ _ _ _ _ c.in_ok-below.ensures.ok.1 c.in_err-head.ensures.answer)

pub for_statement-returns-in_err-head-clause-stands : goal.for_statement-returns-in_err-head-clause-stands
for_statement-returns-in_err-head-clause-stands t c = err_passed_on (StandsStmt c.args.depth _) _ c.in_err-head.field-0.0 c.from_residual-in_err-head.ensures.1
    (for_head_stands _ _ _ _ _ c.in_ok-below.ensures.ok.1 c.in_err-head.ensures.stands)

pub for_statement-returns-in_err-body-clause-answer : goal.for_statement-returns-in_err-body-clause-answer
for_statement-returns-in_err-body-clause-answer t c = passed_on (AnswersStmt c.args.depth _) _ c.in_err-body.field-0.0 c.from_residual-in_err-body.ensures.1
    (for_body_fails _ _ _ _ _ _ _ _ c.in_ok-below.ensures.ok.1 c.in_ok-head.ensures.answer c.in_err-body.ensures.answer)

pub for_statement-returns-in_err-body-clause-stands : goal.for_statement-returns-in_err-body-clause-stands
for_statement-returns-in_err-body-clause-stands t c = err_passed_on (StandsStmt c.args.depth _) _ c.in_err-body.field-0.0 c.from_residual-in_err-body.ensures.1
    (for_body_stands _ _ _ _ _ _ _ _ c.in_ok-below.ensures.ok.1 c.in_ok-head.ensures.answer c.in_err-body.ensures.stands)

pub for_statement-returns-clause-answer : goal.for_statement-returns-clause-answer
for_statement-returns-clause-answer t c = rw c.in_ok-for_node.ensures.ok (for_reads _ _ _ _ c.in_ok-head.head.start c.in_ok-head.head.test c.in_ok-head.head.step _ _ c.in_ok-body.body.stmt.value _ _ _ c.in_ok-below.ensures.ok.1
    c.in_ok-head.ensures.answer c.in_ok-body.ensures.answer (ap (λ x. x + 1) c.max-depth.ensures))

pub labelled_statement-returns-in_err-part-clause-answer : goal.labelled_statement-returns-in_err-part-clause-answer
labelled_statement-returns-in_err-part-clause-answer t c = passed_on (AnswersLabelled c.args.depth c.args.tokens.now) _ c.in_err-part.field-0.0
    c.from_residual-in_err-part.ensures.1 (labelled_fails _ _ _ _ _ c.requires c.in_ok-rest.ensures.ok.1 c.in_err-part.ensures.answer)

pub labelled_statement-returns-in_err-part-clause-stands : goal.labelled_statement-returns-in_err-part-clause-stands
labelled_statement-returns-in_err-part-clause-stands t c = err_passed_on (StandsLabelled c.args.depth c.args.tokens.now) _ c.in_err-part.field-0.0
    c.from_residual-in_err-part.ensures.1 (labelled_stands _ _ _ _ _ c.requires c.in_ok-rest.ensures.ok.1 c.in_err-part.ensures.stands)

pub labelled_statement-returns-clause-answer : goal.labelled_statement-returns-clause-answer
labelled_statement-returns-clause-answer t c = labelled_reads _ _ _ _ _ _ _ c.requires c.in_ok-rest.ensures.ok.1 c.in_ok-part.ensures.answer

pub tested_statement-returns-in_err-test-clause-answer : goal.tested_statement-returns-in_err-test-clause-answer
tested_statement-returns-in_err-test-clause-answer t c = passed_on (AnswersTested c.args.depth c.args.tokens.now) _ c.in_err-test.field-0.0
    c.from_residual.ensures.1 (tested_test_fails _ _ _ c.in_err-test.ensures.answer)

pub tested_statement-returns-in_err-test-clause-stands : goal.tested_statement-returns-in_err-test-clause-stands
tested_statement-returns-in_err-test-clause-stands t c = err_passed_on (StandsTested c.args.depth c.args.tokens.now) _ c.in_err-test.field-0.0
    c.from_residual.ensures.1 (tested_test_stands _ _ _ c.in_err-test.ensures.stands)

pub tested_statement-returns-in_err-body-clause-answer : goal.tested_statement-returns-in_err-body-clause-answer
tested_statement-returns-in_err-body-clause-answer t c = passed_on (AnswersTested c.args.depth c.args.tokens.now) _ c.in_err-body.field-0.0
    c.from_residual-in_err-body.ensures.1 (tested_body_fails _ _ _ _ _ _ c.in_ok-test.ensures.answer c.in_err-body.ensures.answer)

pub tested_statement-returns-in_err-body-clause-stands : goal.tested_statement-returns-in_err-body-clause-stands
tested_statement-returns-in_err-body-clause-stands t c = err_passed_on (StandsTested c.args.depth c.args.tokens.now) _ c.in_err-body.field-0.0
    c.from_residual-in_err-body.ensures.1 (tested_body_stands _ _ _ _ _ _ c.in_ok-test.ensures.answer c.in_err-body.ensures.stands)

pub tested_statement-returns-clause-answer : goal.tested_statement-returns-clause-answer
tested_statement-returns-clause-answer t c = tested_reads _ _ _ _ _ _ _ _ _ c.in_ok-test.ensures.answer c.in_ok-body.ensures.answer c.max-depth.ensures

pub block_item-returns-in_err-part-clause-answer : goal.block_item-returns-in_err-part-clause-answer
block_item-returns-in_err-part-clause-answer t c = passed_on (AnswersPiece c.args.depth c.args.tokens.now) _ c.in_err-part.field-0.0
    c.from_residual.ensures.1 (run_fails _ _ _ (λ b. not_true (c.if-begins_declaration.ensures.1 b)) c.in_err-part.ensures.answer)

pub block_item-returns-in_err-part-clause-stands : goal.block_item-returns-in_err-part-clause-stands
block_item-returns-in_err-part-clause-stands t c = err_passed_on (StandsPiece c.args.depth c.args.tokens.now) _ c.in_err-part.field-0.0
    c.from_residual.ensures.1 (run_stands _ _ _ c.in_err-part.ensures.stands)

pub block_item-returns-clause-answer : goal.block_item-returns-clause-answer
block_item-returns-clause-answer t c = rw c.in_ok-statement_piece.ensures.ok (
  run_reads _ _ _ _ _ (λ b. not_true (c.if-begins_declaration.ensures.1 b))
      c.in_ok-part.ensures.answer.0,
  c.in_ok-part.ensures.answer.1,
)

pub block_items-loop-after-init : goal.block_items-loop-after-init
block_items-loop-after-init t c = record { no_longer = omega arith; read = rw c.new-items.ensures.items (block_starts _ _ c.requires) }

pub block_items-returns-in-Some-clause-answer : goal.block_items-returns-in-Some-clause-answer
block_items-returns-in-Some-clause-answer t c = block_ends _ _ _ _ _ _ _ c.in-Some.ensures c.loop-after.invariant.read

pub block_items-returns-in_err-next-clause-answer : goal.block_items-returns-in_err-next-clause-answer
block_items-returns-in_err-next-clause-answer t c = passed_on (AnswersBody c.args.depth c.args.tokens.now) _ c.in_err-next.field-0.0 c.from_residual.ensures.1
    (block_fails _ _ _ _ _ _ c.in_default.ensures c.loop-after.invariant.read c.in_err-next.ensures.answer)

pub block_items-returns-in_err-next-clause-stands : goal.block_items-returns-in_err-next-clause-stands
block_items-returns-in_err-next-clause-stands t c = err_passed_on (StandsBody c.args.depth c.args.tokens.now) _ c.in_err-next.field-0.0
    c.from_residual.ensures.1 (block_stands _ _ _ _ _ _ c.loop-after.invariant.read c.in_err-next.ensures.stands)

pub block_items-loop-after-preserved : goal.block_items-loop-after-preserved
block_items-loop-after-preserved t c = record {
  no_longer = omega (arith, c.in_ok-next.ensures.shorter, c.loop-after.invariant.no_longer);
  read = rw
      (c.in_ok-push_unboxed.ensures.ok, map-append piece_of c.loop-after.items.items (c.in_ok-next.next.item.value ∷ []))
      (block_goes_on _ _ _ _ _ _ c.in_ok-next.next.depth _ _ c.in_default.ensures c.loop-after.invariant.read c.in_ok-next.ensures.answer.0 c.max-deepest.ensures);
}
