use Rattle.std.proofs.Common.{ℤ, ap, to_z, of_z, w64, ◌∙◌}
use Rattle.std.proofs.Math.Facts.{to_z-of_z}
use Rattle.csem.specs.Store.{Reference, whole}
use Rattle.csem.specs.Machine.{Run, then_do, subscripted, read}
use Rattle.interp_store.specs.View.{reference_of}
use Rattle.interp_store.specs.layer.Agrees.{number, state_in}
use Rattle.interp_eval.proofs.Leaves.{runs_as}
use Rattle.interp_eval.proofs.objects.read_element.Goals as goal

pub returns-in-None : goal.returns-in-None
returns-in-None c = λ o.
    let s = state_in c.args.scene.now o in
    let f : Reference → ℤ → Run ℤ = λ r v. then_do (subscripted c.args.at r v s) (λ r s. read c.args.at r s) in
    runs_as number (f (reference_of c.whole.result) (to_z w64 (of_z w64 c.args.subscript))) (f (whole c.args.n) c.args.subscript) c.read_at.result s
    (ap (λ v. f (reference_of c.whole.result) v) (to_z-of_z c.ranges.subscript) ∙ ap (λ r. f r c.args.subscript) c.whole.ensures) (c.read_at.ensures o)
