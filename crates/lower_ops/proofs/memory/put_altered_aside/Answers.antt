use Rattle.std.proofs.Common.{◌||◌, ◌+◌, ap, refl, ◌∙◌}
use Rattle.lower_correct.specs.Values.{Nowhere}
use Rattle.lower_correct.specs.Places.{cuts}
use Rattle.lower_ops.specs.layer.Parts.{meant}
use Rattle.lower_ops.proofs.Stored.{aside_wrote}
use Rattle.lower_ops.proofs.memory.put_altered_aside.Goals as goal

pub returns : goal.returns
returns c =
    let e = c.either-kept.ensures ∙ ap (λ b. b || c.is_wide.result) c.cuts.ensures ∙ ap (λ b. cuts c.args.change.ty Nowhere || b) c.is_wide.ensures in
    aside_wrote c.args.change.op c.args.change.ty c.args.change.of c.args.change.spot (meant c.args.mode) c.args.temporary (c.args.temporary + 1) c.either-kept.result refl e
    (rw c.reading_of-reading.ensures at c.in_ok-put_operation.ensures) c.in_ok-put_stored.ensures c.in_ok-put_end.ensures
