use Rattle.std.proofs.Common.{[], ◌∷◌, arith}
use Rattle.std.proofs.lemmas.List.{map-append}
use Rattle.tree.specs.View.{specifier_of}
use Rattle.parser_declarations.specs.inside.SpecifierAnswers.{AnswersDeclarationSpecifiers, StandsDeclarationSpecifiers}
use Rattle.parser_grammar.proofs.Exits.{passed_on, err_passed_on, not_both}
use Rattle.parser_declarations.proofs.SpecifierParts.{no_keyword}
use Rattle.parser_declarations.proofs.SpecifierLists.{specifiers_first_fail, specifiers_first_stand, specifiers_begin, specifiers_more, specifiers_fail, specifiers_stand, specifiers_end}
use Rattle.parser_declarations.proofs.specifiers.declaration_specifiers.Goals as goal

pub returns-in_default-clause-answer : goal.returns-in_default-clause-answer
returns-in_default-clause-answer c = specifiers_first_fail _ _ _ _ (no_keyword _ _ _ _ c.in_default.ensures)

pub returns-in_err-first-clause-answer : goal.returns-in_err-first-clause-answer
returns-in_err-first-clause-answer c = passed_on (AnswersDeclarationSpecifiers c.args.scope c.args.depth c.args.tokens.now) _ c.in_err-first.field-0.0
    c.from_residual.ensures.1 (specifiers_first_fail _ _ _ _ c.in_err-first.ensures.answer)

pub returns-in_err-first-clause-stands : goal.returns-in_err-first-clause-stands
returns-in_err-first-clause-stands c = err_passed_on (StandsDeclarationSpecifiers c.args.scope c.args.depth c.args.tokens.now) _ c.in_err-first.field-0.0
    c.from_residual.ensures.1 (specifiers_first_stand _ _ _ _ c.in_err-first.ensures.stands)

pub loop-alloc-init : goal.loop-alloc-init
loop-alloc-init c = record {
  shorter = c.in_ok-first.ensures.shorter;
  read = rw (c.in_ok-push.ensures.items, c.new-list.ensures.items)
      (specifiers_begin _ _ _ _ _ _ c.requires c.in_ok-first.ensures.answer);
}

pub returns-in_err-next-clause-answer : goal.returns-in_err-next-clause-answer
returns-in_err-next-clause-answer c = passed_on (AnswersDeclarationSpecifiers c.args.scope c.args.depth c.args.tokens.now) _ c.in_err-next.field-0.0
    c.from_residual-in_err-next.ensures.1 (specifiers_fail _ _ _ _ _ _ _ (c.begins_specifier.ensures.0 c.loop-alloc-test.true) c.loop-alloc.invariant.read
    c.in_err-next.ensures.answer)

pub returns-in_err-next-clause-stands : goal.returns-in_err-next-clause-stands
returns-in_err-next-clause-stands c = err_passed_on (StandsDeclarationSpecifiers c.args.scope c.args.depth c.args.tokens.now) _ c.in_err-next.field-0.0
    c.from_residual-in_err-next.ensures.1 (specifiers_stand _ _ _ _ _ _ _ c.loop-alloc.invariant.read c.in_err-next.ensures.stands)

pub loop-alloc-preserved : goal.loop-alloc-preserved
loop-alloc-preserved c = record {
  shorter = omega (arith, c.in_ok-next.ensures.shorter, c.loop-alloc.invariant.shorter);
  read = rw
      (c.in_ok-push-2.ensures.items, map-append specifier_of c.loop-alloc.list.items (c.in_ok-next.next.specifier ∷ []))
      (specifiers_more _ _ _ _ _ _ _ c.in_ok-next.next.depth _ _ c.loop-alloc.invariant.read c.in_ok-next.ensures.answer c.max-deepest.ensures);
}

pub returns-clause-answer : goal.returns-clause-answer
returns-clause-answer c = (
  (_, c.in-Some.field-0-2.now, c.in-Some.ensures),
  specifiers_end _ _ _ _ _ _
      (λ b. not_both _ c.loop-alloc-test.false (c.begins_specifier.ensures.1 b)) c.loop-alloc.invariant.shorter c.loop-alloc.invariant.read,
)
