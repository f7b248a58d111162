use Rattle.std.proofs.Common.{refl}
use Rattle.std.proofs.lemmas.Option.{slice_get_read}
use Rattle.verify_statements.proofs.Fills.{object_found}
use Rattle.verify_statements.proofs.begun.array_defined.Goals as goal

pub object_defined-requires : goal.object_defined-requires
object_defined-requires c =
    let xs = c.args.scope.now.objects.now in
    let t = c.in-Some.object.now in
    object_found xs c.args.n t (slice_get_read xs _ c.args.n t refl c.in-Some.ensures.lookup.3.0 c.in-Some.ensures.lookup.1)
