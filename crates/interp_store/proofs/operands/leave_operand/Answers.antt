use Rattle.std.proofs.Common.{◌≡◌, ap, ◌∙◌, sym, ◌++◌, ◌∷◌, [], map, rules, to_z, of_z, w64, ℤ}
use Rattle.std.proofs.Math.Facts.{to_z-of_z}
use Rattle.interp_store.proofs.Taken.{left_as, takes_as}
use Rattle.interp_store.proofs.Scenes.{runs_as}
use Rattle.interp_store.specs.layer.Frames.{Moved}
use Rattle.interp_store.specs.layer.Steps.{asked_for, left_by_value}
use Rattle.interp_store.specs.layer.Views.{passed_of, operand_frame}
use Rattle.csem.specs.Expressions.{Number}
use Rattle.interp_store.specs.View.{reference_of}
use Rattle.interp_store.specs.layer.Agrees.{frames_of, state_in, combined, number}
use Rattle.typed_ast.specs.View.{program_of, callee_of, argument_of, arguments_of}
use Rattle.ctypes.specs.Types.{converted}
use Rattle.typing_spec.specs.Operators.{operated, sign_of}
use Rattle.csem.specs.Machine.{State, subscripted, write, computed_at}
use Rattle.interp_store.proofs.operands.leave_operand.Goals as goal

pub returns-in-IndexOf-clause-takes : goal.returns-in-IndexOf-clause-takes
returns-in-IndexOf-clause-takes c =
    let m = c.args.machine.now in
    let i = c.in-IndexOf in
    left_as c.args.frame _ c.args.v _ m m c.gives_place.result i.is (to_z-of_z c.ranges.v) (λ o. let s = state_in m.scene o in let p = program_of m.program.now in
    c.gives_place.ensures (subscripted i.at (reference_of i.r) _ s) (state_in m.scene o) (frames_of m) (c.subscripted.ensures o))

pub returns-in-Stores-clause-takes : goal.returns-in-Stores-clause-takes
returns-in-Stores-clause-takes c =
    let m = c.args.machine.now in
    let i = c.in-Stores in
    left_as c.args.frame _ c.args.v _ m (record m { scene = c.write.new.self }) c.gives_value.result i.is (to_z-of_z c.ranges.v) (λ o. let s = state_in m.scene o in let p = program_of m.program.now in
    c.gives_value.ensures (write p i.at (reference_of i.r) (converted i.ty _) s) (state_in c.write.new.self o) (frames_of m) (c.write.ensures o))

pub returns-in-Combines-clause-takes : goal.returns-in-Combines-clause-takes
returns-in-Combines-clause-takes c =
    let m = c.args.machine.now in
    let i = c.in-Combines in
    left_as c.args.frame _ c.args.v _ m (record m { scene = c.combine.new.self }) c.gives_value-in-Combines.result i.is (to_z-of_z c.ranges.v) (λ o. let s = state_in m.scene o in let p = program_of m.program.now in
    c.gives_value-in-Combines.ensures (combined p i.c (reference_of i.r) _ s) (state_in c.combine.new.self o) (frames_of m) (c.combine.ensures o))

pub returns-in-Signs-clause-takes : goal.returns-in-Signs-clause-takes
returns-in-Signs-clause-takes c =
    let m = c.args.machine.now in
    let i = c.in-Signs in
    left_as c.args.frame _ c.args.v _ m m c.gives_value-in-Signs.result i.is (to_z-of_z c.ranges.v) (λ o. let s = state_in m.scene o in let p = program_of m.program.now in
    c.gives_value-in-Signs.ensures (computed_at i.at (sign_of i.op i.ty _) s) (state_in m.scene o) (frames_of m) (c.sign_at.ensures s))

pub returns-in-Applies-clause-takes : goal.returns-in-Applies-clause-takes
returns-in-Applies-clause-takes c =
    let m = c.args.machine.now in
    let i = c.in-Applies in
    let v : ℤ = to_z w64 (of_z w64 c.args.v) in
    let same : to_z w64 (of_z w64 i.a) ≡ i.a = search (rules, to_z-of_z) in
    left_as c.args.frame _ c.args.v _ m m c.gives_value-in-Applies.result i.is (to_z-of_z c.ranges.v) (λ o. let s = state_in m.scene o in
    c.gives_value-in-Applies.ensures (computed_at i.at (operated i.op i.ty i.a v) s) s (frames_of m)
    (runs_as number _ _ c.operated_at.result s (ap (λ x. computed_at i.at (operated i.op i.ty x v) s) same) (c.operated_at.ensures s)))

pub returns-in-Right-clause-takes : goal.returns-in-Right-clause-takes
returns-in-Right-clause-takes c = left_as c.args.frame _ c.args.v _ c.args.machine.now c.operand.new.machine c.operand.result c.in-Right.is (to_z-of_z c.ranges.v) c.operand.ensures.takes

pub returns-in-AndAlso-clause-takes : goal.returns-in-AndAlso-clause-takes
returns-in-AndAlso-clause-takes c = left_as c.args.frame _ c.args.v _ c.args.machine.now c.and_also.new.machine c.and_also.result c.in-AndAlso.is (to_z-of_z c.ranges.v) c.and_also.ensures.takes

pub returns-in-OrElse-clause-takes : goal.returns-in-OrElse-clause-takes
returns-in-OrElse-clause-takes c = left_as c.args.frame _ c.args.v _ c.args.machine.now c.or_else.new.machine c.or_else.result c.in-OrElse.is (to_z-of_z c.ranges.v) c.or_else.ensures.takes

pub returns-in-Chooses-clause-takes : goal.returns-in-Chooses-clause-takes
returns-in-Chooses-clause-takes c = left_as c.args.frame _ c.args.v _ c.args.machine.now c.choose.new.machine c.choose.result c.in-Chooses.is (to_z-of_z c.ranges.v) c.choose.ensures.takes

pub returns-in-NumberPassed-clause-takes : goal.returns-in-NumberPassed-clause-takes
returns-in-NumberPassed-clause-takes c =
    let i = c.in-NumberPassed in
    let a = i.asked in
    let asks : ℤ → State → Moved = λ v s. asked_for a.at (callee_of a.callee) a.used (arguments_of (map argument_of a.more.now)) (map passed_of a.before.items ++ Number v ∷ []) s in
    let same : to_z w64 (of_z w64 c.convert.result) ≡ c.convert.result = search (rules, to_z-of_z) in
    takes_as c.args.machine.now c.pass.new.machine c.pass.result (λ p s. left_by_value p (operand_frame c.args.frame) c.args.v s)
    (λ p s. asks (to_z w64 (of_z w64 c.convert.result)) s)
    (λ p s. ap (λ v. asks v s) (same ∙ c.convert.ensures.value ∙ ap (converted i.ty) (to_z-of_z c.ranges.v)) ∙ ap (λ f. left_by_value p (operand_frame f) c.args.v s) (sym i.is)) c.pass.ensures.takes
