use Rattle.std.proofs.Common.{ap, sym, ◌∙◌}
use Rattle.typed_ast.specs.View.{value_of}
use Rattle.lower_correct.specs.Values as values
use Rattle.lower_ops.specs.layer.Parts.{is_written}
use Rattle.lower_exprs.proofs.operands.waits.Goals as goal

pub returns : goal.returns
returns c = λ w h.
    let e = value_of c.args.e.now in
    c.constant_or.ensures ∙ ap (λ x. values.constant_or x c.at_rest.result) c.constant_of.ensures
    ∙ ap (λ x. values.constant_or (values.constant_of e) x)
    (c.at_rest.ensures w (h ∙ ap (λ o. is_written o w) (sym c.rests_in.ensures)) ∙ ap (λ o. values.at_rest o w c.pending.result) c.rests_in.ensures
    ∙ ap (λ p. values.at_rest (values.rests_in e) w p) c.pending.ensures)
