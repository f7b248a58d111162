use Rattle.std.proofs.Common.{subst, ap, ◌∙◌}
use Rattle.typed_ast.specs.View.{place_of}
use Rattle.lower_correct.specs.Code.{HandsOver}
use Rattle.lower_correct.specs.Places.{found}
use Rattle.lower_ops.specs.layer.FormSizes.{hands_over_size}
use Rattle.lower_ops.specs.layer.Parts.{Wrote}
use Rattle.lower_exprs.proofs.values.put_array_reference.Goals as goal

pub returns : goal.returns
returns c = subst
    (λ a. Wrote (λ w p q. HandsOver w a c.args.free.temporary p q) (hands_over_size a) c.args.code.now.list.items c.put_handed.new.code.list.items)
    (c.found-spot.ensures ∙ ap (λ b. found (place_of c.args.array.now) b c.args.free.temporary c.args.free.slot) (c.call.ensures c.args.more.now c.requires))
    c.in_ok-put_handed.ensures
