use Rattle.std.proofs.Common.{ap, to_z, of_z, w64, Ok, Err}
use Rattle.std.proofs.Math.Facts.{to_z-of_z}
use Rattle.csem.specs.Machine.{subscripted}
use Rattle.interp_store.specs.View.{reference_of}
use Rattle.interp_store.specs.layer.Agrees.{state_in}
use Rattle.interp_eval.proofs.Leaves.{runs_as}
use Rattle.interp_eval.proofs.Wholes.{element_goes, element_stops}
use Rattle.interp_eval.proofs.objects.read_at.Goals as goal

pub returns-in-Ok : goal.returns-in-Ok
returns-in-Ok c = λ o.
    let s = state_in c.args.scene.now o in
    let r = reference_of c.args.r in
    element_goes c.args.at r c.args.subscript s c.in-Ok.part c.read.result
    (runs_as reference_of (subscripted c.args.at r (to_z w64 (of_z w64 c.args.subscript)) s) (subscripted c.args.at r c.args.subscript s) (Ok c.in-Ok.part) s
    (ap (λ v. subscripted c.args.at r v s) (to_z-of_z c.ranges.subscript)) (c.in-Ok.ensures o)) (c.read.ensures o)

pub returns-in-Err : goal.returns-in-Err
returns-in-Err c = λ o.
    let s = state_in c.args.scene.now o in
    let r = reference_of c.args.r in
    element_stops c.args.at r c.args.subscript s c.in-Err.stop
    (runs_as reference_of (subscripted c.args.at r (to_z w64 (of_z w64 c.args.subscript)) s) (subscripted c.args.at r c.args.subscript s) (Err c.in-Err.stop) s
    (ap (λ v. subscripted c.args.at r v s) (to_z-of_z c.ranges.subscript)) (c.in-Err.ensures o))
