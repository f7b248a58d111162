use Rattle.std.proofs.Common.{◌≡◌, rules, to_z, of_z, w64}
use Rattle.std.proofs.Math.Facts.{to_z-of_z}
use Rattle.interp_store.specs.View.{reference_of}
use Rattle.interp_store.specs.layer.Agrees.{state_in}
use Rattle.interp_steps.proofs.Cleared.{one_put}
use Rattle.interp_steps.proofs.elements.put_text.Goals as goal

pub loop-i-preserved : goal.loop-i-preserved
loop-i-preserved c = λ o.
    let same : to_z w64 (of_z w64 c.character-v.result) ≡ c.character-v.result = search (rules, to_z-of_z) in
    one_put c.args.ty c.args.text.now (reference_of c.args.r.now) c.loop-i.i c.args.count c.character-v.result _ (state_in c.loop-i.scene o) (state_in c.set_part.new.scene o) _
    c.loop-i-test.true c.character-v.ensures same (c.in-Ok.ensures.ok o) (c.loop-i.invariant o)
