use Rattle.std.proofs.Common.{ap, sym, ◌∙◌}
use Rattle.lower_ops.specs.layer.Rows.{size_at, counted}
use Rattle.lower_ops.proofs.Rows.{deep_complete}
use Rattle.lower_ops.proofs.row_sizes.size_in.Goals as goal

pub returns : goal.returns
returns c =
    let o = c.args.object.now in
    let e = ap (λ lengths. size_at c.args.depth o.element lengths) c.deref.ensures.value ∙ sym (deep_complete c.args.depth o.element o.constant o.lengths.items) in
    c.size_at.ensures ∙ ap counted e
