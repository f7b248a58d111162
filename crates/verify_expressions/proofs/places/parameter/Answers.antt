use Rattle.std.proofs.Common.{refl}
use Rattle.std.proofs.lemmas.Option.{slice_get_read}
use Rattle.verify_logic.proofs.Rules.{parameter_designates}
use Rattle.verify_expressions.specs.Views.{frame_of}
use Rattle.verify_expressions.proofs.places.parameter.Goals as goal

pub returns-in-Some : goal.returns-in-Some
returns-in-Some c =
    let xs = c.args.scope.now.arrays.now in
    let a = c.in-Some.a.now in
    parameter_designates (frame_of c.args.scope.now) c.args.n a (slice_get_read xs _ c.args.n a refl c.in-Some.ensures.lookup.3.0 c.in-Some.ensures.lookup.1)
