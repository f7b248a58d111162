use Rattle.std.proofs.Common.{ap, ◌∙◌, ◌∷◌, [], ◌++◌}
use Rattle.typed_ast.specs.View.{place_of}
use Rattle.interp_store.proofs.Taken.{takes_behind}
use Rattle.interp_store.specs.layer.Frames as on
use Rattle.interp_store.specs.layer.Agrees.{frames_of}
use Rattle.interp_store.specs.layer.Steps.{entered_place}
use Rattle.interp_store.proofs.expressions.enter_read.Goals as goal

pub returns-in-Ok-clause-takes : goal.returns-in-Ok-clause-takes
returns-in-Ok-clause-takes c = takes_behind c.args.machine.now c.push.new.self c.enter_place.new.machine _ c.enter_place.result (λ p s. entered_place p (place_of c.args.place.now) s)
    (c.in-Ok.ensures.pushed ∙ ap (λ at. frames_of c.args.machine.now ++ on.reads at ∷ []) c.position_of.ensures) c.in-Ok.ensures.scene c.in-Ok.ensures.program c.enter_place.ensures.takes
