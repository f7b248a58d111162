use Rattle.std.proofs.Common.{◌≡◌, ◌∷◌, rules, ap, sym, ◌∙◌}
use Rattle.tree.specs.Capped.{capped}
use Rattle.typing_spec.specs.Types.{elements_in}
use Rattle.const_expr.proofs.Sizes.{capped_of_none, capped_product}
use Rattle.decls_initialisers.proofs.element_values.+element_count.Goals as goal

pub returns-in-None : goal.returns-in-None
returns-in-None t c = capped_of_none c.args.lengths.now (search rules)

pub returns-in-Some : goal.returns-in-Some
returns-in-Some t c =
    let first = c.in-Some.first.now in
    let rest = c.in-Some.rest.now in
    let one : c.args.lengths.now ≡ first ∷ rest = search rules in
    capped_product first c.element_count.result c.saturating_mul.result (elements_in rest) c.saturating_mul.ensures c.element_count.ensures ∙ ap (λ l. capped (elements_in l)) (sym one)
