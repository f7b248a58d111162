use Rattle.std.proofs.Common.{ap, sym}
use Rattle.interp_store.specs.layer.Agrees.{state_in, frames_of}
use Rattle.csem.specs.Machine.{Goes, designated}
use Rattle.typed_ast.specs.View.{program_of, place_of, storage_of}
use Rattle.interp_store.specs.layer.Steps.{entered_place}
use Rattle.interp_store.proofs.Held.{sees_named}
use Rattle.interp_store.proofs.Taken.{agrees_as}
use Rattle.interp_store.proofs.expressions.enter_place.Goals as goal

pub returns-in-Named-clause-takes : goal.returns-in-Named-clause-takes
returns-in-Named-clause-takes c = λ o.
    let m = c.args.machine.now in
    let s = state_in m.scene o in
    let p = program_of m.program.now in
    agrees_as (entered_place p (place_of c.args.place.now) s) _ (frames_of m) (frames_of m) c.gives_place.result s
    (ap (λ x. entered_place p x s) (sym (sees_named c.args.place.now c.in-Named.field-0 c.in-Named.what c.in-Named.is)))
    (c.gives_place.ensures (Goes (designated p (storage_of c.in-Named.what) s) s) s (frames_of m) (c.designated-found.ensures o))
