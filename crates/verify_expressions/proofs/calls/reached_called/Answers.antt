use Rattle.std.proofs.Common.{ap, refl, sym, ◌∙◌}
use Rattle.std.specs.Prelude.{slice_get}
use Rattle.std.proofs.lemmas.Option.{slice_get_read}
use Rattle.verify_expressions.proofs.Summaries.{function_there}
use Rattle.verify_expressions.proofs.calls.reached_called.Goals as goal

pub defined_called-requires : goal.defined_called-requires
defined_called-requires c =
    let f = c.args.f in
    let g = c.in-Some.function.now in
    function_there c.args.scope.now.program.now.functions.items f g (sym (ap (λ gs. slice_get gs f) c.deref.ensures.value) ∙ slice_get_read c.deref.result.now _ f g refl c.in-Some.ensures.lookup.3.0 c.in-Some.ensures.lookup.1)
