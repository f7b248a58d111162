use Rattle.std.proofs.Common.{◌≡◌, arith, rules, to_z, of_z, w64, ap, sym, ◌∙◌}
use Rattle.std.proofs.Math.Facts.{to_z-of_z}
use Rattle.ctypes.specs.Types.{converted}
use Rattle.interp_store.specs.View.{reference_of}
use Rattle.interp_store.specs.layer.Agrees.{state_in}
use Rattle.csem.specs.Machine.{stored}
use Rattle.interp_store.proofs.Scenes.{writes}
use Rattle.interp_store.proofs.scene.Scene.write.Goals as goal

pub returns-in-Ok : goal.returns-in-Ok
returns-in-Ok c = λ o.
    let same : to_z w64 (of_z w64 c.convert-v.result) ≡ c.convert-v.result = search (rules, to_z-of_z) in
    writes c.args.program.now _ _ _ _ _ _ c.len.result (omega (arith, c.len.ensures, c.args.program.now.literals.ok.0)) (sym c.is_before.ensures ∙ c.if-is_before.false) (same ∙ c.convert-v.ensures.value ∙ ap (converted c.args.ty) (to_z-of_z c.ranges.v))
    (c.in-Ok.ensures.ok o ∙ ap (λ v. stored (reference_of c.args.r.now) v (state_in c.args.self.now o)) (same ∙ c.convert-v.ensures.value ∙ ap (converted c.args.ty) (to_z-of_z c.ranges.v)))
