use Rattle.std.specs.Prelude.{None}
use Rattle.std.proofs.Common.{◌+◌, sym, map, IfErr}
use Rattle.tree.specs.Counts.{sizes_depth}
use Rattle.tree.specs.View.{option_tree}
use Rattle.parser_grammar.specs.layer.Answer.{ReadsOf}
use Rattle.parser_grammar.specs.Declarations.{SpellsBounds}
use Rattle.parser_declarations.specs.inside.SpecifierAnswers.{EndsBounds}
use Rattle.parser_declarations.specs.inside.ItemAnswers.{AnswersItem, StandsItem}
use Rattle.parser_grammar.proofs.Exits.{passed_on}
use Rattle.parser_declarations.proofs.ItemFacts.{item_full_stands, function_fails, function_stands, function_reads, sizes_stand, value_stands}
use Rattle.parser_declarations.proofs.items.item.Goals as goal

pub returns-in_err-below-clause-stands : goal.returns-in_err-below-clause-stands
returns-in_err-below-clause-stands c = passed_on (λ r. IfErr r (λ f. StandsItem c.args.scope c.args.depth c.args.tokens.now f)) _ c.in_err-below.field-0.0
    c.from_residual.ensures.1 (item_full_stands _ _ _ _ _ _ _ c.in-Some.ensures c.in_err-below.ensures.err.1 c.in_err-below.ensures.err.0)

pub returns-in_err-part-clause-answer : goal.returns-in_err-part-clause-answer
returns-in_err-part-clause-answer c = passed_on (AnswersItem c.args.scope c.args.depth c.args.tokens.now) _ c.in_err-part.field-0.0
    c.from_residual-in_err-part.ensures.1 (function_fails _ _ _ _ _ _ _ _ _ c.in-Some.ensures c.in-Some-parameters_front.ensures.1.1
    (rw (sym c.in_ok-below.ensures.ok.1) c.in_err-part.ensures.answer))

pub returns-in_err-part-clause-stands : goal.returns-in_err-part-clause-stands
returns-in_err-part-clause-stands c = passed_on (λ r. IfErr r (λ f. StandsItem c.args.scope c.args.depth c.args.tokens.now f)) _ c.in_err-part.field-0.0
    c.from_residual-in_err-part.ensures.1 (function_stands _ _ _ _ _ _ _ _ _ c.in-Some-parameters_front.ensures.0 c.in-Some.ensures
    c.in-Some-parameters_front.ensures.1.1 (rw (sym c.in_ok-below.ensures.ok.1) c.in_err-part.ensures.stands))

pub returns-in-Some-parameters_front-clause-answer : goal.returns-in-Some-parameters_front-clause-answer
returns-in-Some-parameters_front-clause-answer c = function_reads _ _ _ _ _ _ _ _ _ _ _ c.in-Some-parameters_front.ensures.0 c.in-Some.ensures
    c.in-Some-parameters_front.ensures.1.1 (rw (sym c.in_ok-below.ensures.ok.1) c.in_ok-part.ensures.answer)

pub returns-in_err-sizes-clause-stands : goal.returns-in_err-sizes-clause-stands
returns-in_err-sizes-clause-stands c = passed_on (λ r. IfErr r (λ f. StandsItem c.args.scope c.args.depth c.args.tokens.now f)) _ c.in_err-sizes.field-0.0
    c.from_residual-in_err-sizes.ensures.1 (sizes_stand _ _ _ _ _ _ _ c.in-Some.ensures (rw (sym c.in_ok-below.ensures.ok.1) c.in_err-sizes.ensures.stands))

pub returns-in_err-value-clause-stands : goal.returns-in_err-value-clause-stands
returns-in_err-value-clause-stands c = let b : ReadsOf (SpellsBounds None) EndsBounds sizes_depth (c.args.depth + 1) c.in-Some.rest.now
    (map option_tree c.in_ok-sizes.sizes.sizes.items) c.in_ok-sizes.sizes.depth c.in_ok-sizes.sizes.rest.now = rw (sym c.in_ok-below.ensures.ok.1)
    c.in_ok-sizes.ensures.answer in passed_on (λ r. IfErr r (λ f. StandsItem c.args.scope c.args.depth c.args.tokens.now f)) _ c.in_err-value.field-0.0
    c.from_residual-in_err-value.ensures.1 (value_stands _ _ _ _ _ _ _ _ _ _ c.in-Some.ensures b
    (rw (sym c.in_ok-below.ensures.ok.1) c.in_err-value.ensures.stands))
