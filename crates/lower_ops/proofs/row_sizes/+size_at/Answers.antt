use Rattle.std.proofs.Common.{ap, sym, ◌∙◌, arith}
use Rattle.lower_ops.specs.layer.Rows.{size_at, counted}
use Rattle.lower_ops.proofs.Rows.{inner_some}
use Rattle.lower_ops.proofs.row_sizes.+size_at.Goals as goal

pub returns-in-Some : goal.returns-in-Some
returns-in-Some t c =
    let e = inner_some c.args.depth c.args.element c.in-Some.field-0-0.now c.in-Some.rest.now (omega (arith, c.if-depth-eq0.false))
    ∙ sym (ap (λ lengths. size_at c.args.depth c.args.element lengths) c.in-Some.ensures.cases.0) in
    c.size_at.ensures ∙ ap counted e
