use Rattle.std.proofs.Common.{length, [], ◌∷◌, ap, arith}
use Rattle.std.proofs.lemmas.List.{map-append}
use Rattle.tree.specs.View.{option_tree}
use Rattle.parser_declarations.specs.inside.SpecifierAnswers.{AnswersBounds, StandsBounds}
use Rattle.parser_grammar.proofs.Exits.{passed_on, err_passed_on}
use Rattle.parser_declarations.proofs.BoundsLists.{bounds_start, bounds_more, bounds_fail, bounds_stand, bounds_end}
use Rattle.parser_declarations.proofs.parameters.bounds.Goals as goal

pub loop-after-init : goal.loop-after-init
loop-after-init c = record { no_longer = omega arith; read = rw c.new-sizes.ensures.items (bounds_start _ _ c.requires) }

pub returns-in_err-next-clause-answer : goal.returns-in_err-next-clause-answer
returns-in_err-next-clause-answer c = passed_on (AnswersBounds c.args.depth c.args.tokens.now) _ c.in_err-next.field-0.0 c.from_residual.ensures.1
    (bounds_fail _ _ _ _ _ _ _ _ c.in-Some.ensures c.loop-after.invariant.read c.in_err-next.ensures.answer)

pub returns-in_err-next-clause-stands : goal.returns-in_err-next-clause-stands
returns-in_err-next-clause-stands c = err_passed_on (StandsBounds c.args.depth c.args.tokens.now) _ c.in_err-next.field-0.0 c.from_residual.ensures.1
    (bounds_stand _ _ _ _ _ _ _ _ c.in-Some.ensures c.loop-after.invariant.read c.in_err-next.ensures.stands)

pub loop-after-preserved : goal.loop-after-preserved
loop-after-preserved c = record {
  no_longer = omega (arith, c.in_ok-next.ensures.shorter, ap length c.in-Some.ensures, c.loop-after.invariant.no_longer);
  read = rw (c.in_ok-push.ensures.items, map-append option_tree c.loop-after.sizes.items (c.in_ok-next.next.size ∷ []))
      (bounds_more _ _ _ _ _ _ _ _ c.in_ok-next.next.depth _ _ c.in-Some.ensures c.loop-after.invariant.read c.in_ok-next.ensures.answer c.max-deepest.ensures);
}

pub returns-clause-answer : goal.returns-clause-answer
returns-clause-answer c = bounds_end _ _ _ _ _ c.in_default.ensures c.loop-after.invariant.read
