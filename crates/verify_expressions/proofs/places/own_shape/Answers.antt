use Rattle.std.proofs.Common.{refl, ◌∙◌, sym}
use Rattle.std.proofs.lemmas.Option.{slice_get_read}
use Rattle.verify_expressions.proofs.Steps.{own_found}
use Rattle.verify_expressions.proofs.places.own_shape.Goals as goal

pub returns-in-Some : goal.returns-in-Some
returns-in-Some c =
    let x = c.in-Some.object.now in
    c.deref.ensures.value ∙ sym (own_found c.args.objects.now c.args.n x (slice_get_read c.args.objects.now _ c.args.n x refl c.in-Some.ensures.lookup.3.0 c.in-Some.ensures.lookup.1))
