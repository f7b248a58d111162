use Rattle.std.proofs.Common.{ap, ◌∙◌, to_z, of_z, w64}
use Rattle.std.proofs.Math.Facts.{to_z-of_z}
use Rattle.csem.specs.Store.{into}
use Rattle.csem.specs.Machine.{stored}
use Rattle.interp_store.specs.View.{reference_of}
use Rattle.interp_store.specs.layer.Agrees.{state_in}
use Rattle.interp_steps.proofs.elements.set_part.Goals as goal

pub returns-in-Ok-set-clause-ok : goal.returns-in-Ok-set-clause-ok
returns-in-Ok-set-clause-ok c = λ o. let s = state_in c.args.scene.now o in
    c.in-Ok-set.ensures.ok o ∙ ap (λ r. stored r (to_z w64 (of_z w64 c.args.v)) s) c.in-Ok.ensures.ok
    ∙ ap (λ v. stored (into (reference_of c.args.r.now) c.args.i) v s) (to_z-of_z c.ranges.v)
