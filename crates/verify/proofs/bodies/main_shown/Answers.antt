use Rattle.std.proofs.Common.{ap, refl, sym, ◌∙◌}
use Rattle.std.specs.Prelude.{slice_get}
use Rattle.std.proofs.lemmas.Option.{slice_get_read}
use Rattle.verify.proofs.Steps.{function_there}
use Rattle.verify.proofs.bodies.main_shown.Goals as goal

pub function_shown-requires-clause-main : goal.function_shown-requires-clause-main
function_shown-requires-clause-main c =
    let f = c.args.program.now.main in
    let g = c.in-Some.function.now in
    function_there c.args.program.now.functions.items f g (sym (ap (λ gs. slice_get gs f) c.deref.ensures.value) ∙ slice_get_read c.deref.result.now _ f g refl c.in-Some.ensures.lookup.3.0 c.in-Some.ensures.lookup.1)
