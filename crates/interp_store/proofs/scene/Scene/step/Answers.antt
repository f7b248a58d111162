use Rattle.std.proofs.Common.{◌≡◌, rules, to_z, of_z, w64, refl, ap, ◌∙◌}
use Rattle.std.proofs.Math.Facts.{to_z-of_z}
use Rattle.typed_ast.specs.View.{program_of, moment_of}
use Rattle.csem.specs.Expressions.{step_operation, step_value}
use Rattle.interp_store.specs.View.{reference_of}
use Rattle.interp_store.specs.layer.Agrees.{state_in}
use Rattle.interp_store.proofs.Scenes.{step_reads, step_computes, step_refused, step_writes}
use Rattle.interp_store.proofs.scene.Scene.step.Goals as goal

pub returns-in-Err : goal.returns-in-Err
returns-in-Err c = λ o. step_reads (program_of c.args.program.now) c.args.step (reference_of c.args.r.now) (step_operation c.args.step.op) refl (state_in c.args.self.now o) c.in-Err.stop (c.in-Err.ensures o)

pub returns-in-Err-operated_at : goal.returns-in-Err-operated_at
returns-in-Err-operated_at c = λ o. let s = state_in c.args.self.now o in
    let same : to_z w64 (of_z w64 c.in-Ok.old) ≡ c.in-Ok.old = search (rules, to_z-of_z) in
    step_computes (program_of c.args.program.now) c.args.step (reference_of c.args.r.now) _ c.step_operation.ensures s c.in-Ok.old _ c.in-Err-operated_at.stop same (c.in-Ok.ensures o) (c.in-Err-operated_at.ensures s)

pub returns-in-Err-write : goal.returns-in-Err-write
returns-in-Err-write c = λ o. let s = state_in c.args.self.now o in
    let same : to_z w64 (of_z w64 c.in-Ok.old) ≡ c.in-Ok.old = search (rules, to_z-of_z) in
    let same_new : to_z w64 (of_z w64 c.in-Ok-operated_at.new) ≡ c.in-Ok-operated_at.new = search (rules, to_z-of_z) in
    step_refused (program_of c.args.program.now) c.args.step (reference_of c.args.r.now) _ c.step_operation.ensures s c.in-Ok.old _ c.in-Ok-operated_at.new _ same same_new (c.in-Ok.ensures o) (c.in-Ok-operated_at.ensures s) _ c.in-Err-write.stop (c.in-Err-write.ensures o)

pub returns-in-Ok-write : goal.returns-in-Ok-write
returns-in-Ok-write c = λ o. let s = state_in c.args.self.now o in
    let same : to_z w64 (of_z w64 c.in-Ok.old) ≡ c.in-Ok.old = search (rules, to_z-of_z) in
    let same_new : to_z w64 (of_z w64 c.in-Ok-operated_at.new) ≡ c.in-Ok-operated_at.new = search (rules, to_z-of_z) in
    let same_given : to_z w64 (of_z w64 c.step_value.result) ≡ c.step_value.result = search (rules, to_z-of_z) in
    let same_written : to_z w64 (of_z w64 c.in-Ok-write.new) ≡ c.in-Ok-write.new = search (rules, to_z-of_z) in
    step_writes (program_of c.args.program.now) c.args.step (reference_of c.args.r.now) _ c.step_operation.ensures s c.in-Ok.old _ c.in-Ok-operated_at.new _ same same_new (c.in-Ok.ensures o) (c.in-Ok-operated_at.ensures s) _ c.in-Ok-write.new _ (same_given ∙ c.step_value.ensures ∙ ap (λ v. step_value (moment_of c.args.step.moment) v (to_z w64 (of_z w64 c.in-Ok-write.new))) same ∙ ap (λ v. step_value (moment_of c.args.step.moment) c.in-Ok.old v) same_written) (c.in-Ok-write.ensures o)
