use Rattle.std.proofs.Common.{◌≡◌, rules, to_z, of_z, w64}
use Rattle.std.proofs.Math.Facts.{to_z-of_z}
use Rattle.typed_ast.specs.View.{program_of}
use Rattle.interp_store.specs.View.{reference_of}
use Rattle.interp_store.specs.layer.Agrees.{state_in}
use Rattle.interp_store.proofs.Scenes.{combine_reads, combine_computes, combine_writes}
use Rattle.interp_store.proofs.scene.Scene.combine.Goals as goal

pub returns-in-Err : goal.returns-in-Err
returns-in-Err c = λ o. combine_reads (program_of c.args.program.now) c.args.c (reference_of c.args.r.now) c.args.v _ (to_z-of_z c.ranges.v) (state_in c.args.self.now o) c.in-Err.stop (c.in-Err.ensures o)

pub returns-in-Err-operated_at : goal.returns-in-Err-operated_at
returns-in-Err-operated_at c = λ o. let s = state_in c.args.self.now o in
    let same : to_z w64 (of_z w64 c.in-Ok.old) ≡ c.in-Ok.old = search (rules, to_z-of_z) in
    combine_computes (program_of c.args.program.now) c.args.c (reference_of c.args.r.now) c.args.v _ (to_z-of_z c.ranges.v) s c.in-Ok.old _ c.in-Err-operated_at.stop same (c.in-Ok.ensures o) (c.in-Err-operated_at.ensures s)

pub returns : goal.returns
returns c = λ o. let s = state_in c.args.self.now o in
    let same : to_z w64 (of_z w64 c.in-Ok.old) ≡ c.in-Ok.old = search (rules, to_z-of_z) in
    let same_new : to_z w64 (of_z w64 c.in-Ok-operated_at.new) ≡ c.in-Ok-operated_at.new = search (rules, to_z-of_z) in
    combine_writes (program_of c.args.program.now) c.args.c (reference_of c.args.r.now) c.args.v _ (to_z-of_z c.ranges.v) s c.in-Ok.old _ c.in-Ok-operated_at.new _ _ _ same same_new (c.in-Ok.ensures o) (c.in-Ok-operated_at.ensures s) (c.write.ensures o)
