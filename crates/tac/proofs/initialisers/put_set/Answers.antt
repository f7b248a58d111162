use Rattle.std.proofs.Common.{◌||◌, ap, ◌∙◌}
use Rattle.typed_ast.specs.View.{value_of}
use Rattle.lower_correct.specs.Values.{Nowhere}
use Rattle.lower_correct.specs.Places.{cuts}
use Rattle.tac.specs.inside.Scopes.{program_in, function_in}
use Rattle.tac.proofs.Filled.{sets_wrote}
use Rattle.tac.proofs.initialisers.put_set.Goals as goal

pub returns : goal.returns
returns c =
    let e = c.either-kept.ensures ∙ ap (λ b. b || c.keeps.result) c.cuts.ensures ∙ ap (λ b. cuts c.args.ty Nowhere || b) c.keeps.ensures in
    sets_wrote (program_in c.args.scope.now) (function_in c.args.scope.now) c.args.ty (value_of c.args.e.now) c.args.start.array c.args.start.number
    c.in_ok-operand.operand c.element_at-spot.result c.either-kept.result
    (rw c.all_free.ensures.temporary at c.in_ok-operand.ensures.0) c.element_at-spot.ensures e
    (rw (c.all_free.ensures.temporary, c.all_free.ensures.slot) at c.in_ok-operand.ensures.1) c.in_ok-put_stored.ensures
