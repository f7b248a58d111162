use Rattle.std.proofs.Common.{rules, arith, sym, ap, ◌∙◌, map}
use Rattle.tree.specs.View.{init_of, inits_of}
use Rattle.decls.specs.inside.Sizes.{alone_literal}
use Rattle.decls.proofs.Initialisers.{none_alone}
use Rattle.decls.proofs.initialised_sizes.literal_alone.Goals as goal

pub returns-else-is_empty : goal.returns-else-is_empty
returns-else-is_empty c =
    none_alone c.in-Some.first.now c.in-Some.rest.now (first_of (omega arith, search rules, grind arith)) ∙ ap (λ l. alone_literal (inits_of (map init_of l))) (sym c.in-Some.ensures.cases.0)
