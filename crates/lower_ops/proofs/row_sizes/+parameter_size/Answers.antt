use Rattle.std.proofs.Common.{map, ap, sym, ◌∙◌}
use Rattle.typing_spec.specs.Nodes.{reference_in}
use Rattle.typed_ast.specs.View.{parameter_type_of}
use Rattle.lower_ops.specs.layer.Rows.{deep_size, counted}
use Rattle.lower_ops.proofs.Rows.{deep_none, no_items}
use Rattle.lower_ops.proofs.row_sizes.+parameter_size.Goals as goal

pub returns-in-None : goal.returns-in-None
returns-in-None t c = ap counted (sym (ap (λ ps. deep_size c.args.depth (reference_in (map parameter_type_of ps) c.args.number)) (no_items c.args.parameters.now c.in-None.ensures.cases) ∙ deep_none c.args.depth))
