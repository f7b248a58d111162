use Rattle.std.proofs.Common.{◌↔◌, IsTrue, ap, sym, subst, ◌∙◌}
use Rattle.std.proofs.Math.Dec.{leb}
use Rattle.tree.specs.declared.unit.External.{External}
use Rattle.tree.specs.Capped.{capped}
use Rattle.tree.specs.Counts.{external_nodes}
use Rattle.tree.specs.View.{external_of}
use Rattle.parser.specs.Units.{IsSmall}
use Rattle.parser.proofs.UnitCounts.{small_test}
use Rattle.parser.proofs.unit.is_small.Goals as goal

pub returns-in-Function : goal.returns-in-Function
returns-in-Function c = subst (λ (x : External). IsTrue (leb c.args.nodes 8000) ↔ IsSmall (external_of x)) (sym c.in-Function.is)
    (small_test _ _ (c.requires ∙ ap (λ (x : External). capped (external_nodes (external_of x))) c.in-Function.is))
