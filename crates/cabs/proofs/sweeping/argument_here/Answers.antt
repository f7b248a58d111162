use Rattle.std.proofs.Common.{rules, ◌≡◌, ◌∙◌, ◌++◌, ◌∷◌, [], ap, subst, sym, to_z, of_z, w64}
use Rattle.std.proofs.Math.Facts.{to_z-of_z}
use Rattle.ctypes.specs.Types.{converted}
use Rattle.typed_ast.specs.View.{Given, arguments_of, program_of}
use Rattle.csem.specs.Expressions as meaning
use Rattle.interp_store.specs.layer.Agrees.{frames_of}
use Rattle.interp_store.specs.layer.Frames as on
use Rattle.interp_store.specs.layer.Steps.{asked_for}
use Rattle.cabs.specs.inside.Sweeping.{After}
use Rattle.cabs.proofs.Seen.{sees_array, sees_number}
use Rattle.cabs.proofs.Sweeps.{after_as}
use Rattle.cabs.proofs.sweeping.argument_here.Goals as goal

pub returns-in-None-clause-does : goal.returns-in-None-clause-does
returns-in-None-clause-does c = λ run at callee used more done h.
    let m = c.args.machine.now in
    let P : Given → Type 0 = λ x. After run (program_of m.program.now) c.args.clock.now.spent (frames_of m) m.scene (λ s. asked_for at callee used (arguments_of (x ∷ more)) done s) in
    c.in-None.ensures.does run (on.number_passed at callee used c.in-Number.ty (arguments_of more) done) (subst P (sees_number c.args.argument.now c.in-Number.ty c.in-Number.e c.in-Number.is) h)

pub returns-in-Some-clause-does : goal.returns-in-Some-clause-does
returns-in-Some-clause-does c = λ run at callee used more done h.
    let m = c.args.machine.now in
    let new = c.value_here.new.machine in
    let p = program_of m.program.now in
    let P : Given → Type 0 = λ x. After run p c.args.clock.now.spent (frames_of m) m.scene (λ s. asked_for at callee used (arguments_of (x ∷ more)) done s) in
    let ty = c.in-Number.ty in
    let v = c.in-Some.v in
    let same : to_z w64 (of_z w64 v) ≡ v = search (rules, to_z-of_z) in
    let kept : to_z w64 (of_z w64 c.convert.result) ≡ c.convert.result = search (rules, to_z-of_z) in
    let is : converted ty v ≡ to_z w64 (of_z w64 c.convert.result) = ap (converted ty) (sym same) ∙ sym c.convert.ensures.value ∙ sym kept in
    after_as run p c.value_here.new.clock.spent (frames_of new) new.scene (λ s. asked_for at callee used (arguments_of more) (done ++ meaning.Number (converted ty v) ∷ []) s) _
    (λ s. ap (λ v. asked_for at callee used (arguments_of more) (done ++ meaning.Number v ∷ []) s) is)
    (c.in-Some.ensures.does run (on.number_passed at callee used ty (arguments_of more) done) (subst P (sees_number c.args.argument.now ty c.in-Number.e c.in-Number.is) h))

pub returns-in-None-place_here-clause-does : goal.returns-in-None-place_here-clause-does
returns-in-None-place_here-clause-does c = λ run at callee used more done h.
    let m = c.args.machine.now in
    let P : Given → Type 0 = λ x. After run (program_of m.program.now) c.args.clock.now.spent (frames_of m) m.scene (λ s. asked_for at callee used (arguments_of (x ∷ more)) done s) in
    c.in-None-place_here.ensures.does run (on.array_passed at callee used (arguments_of more) done) (subst P (sees_array c.args.argument.now c.in-Array.a c.in-Array.is) h)

pub returns-in-Some-place_here-clause-does : goal.returns-in-Some-place_here-clause-does
returns-in-Some-place_here-clause-does c = λ run at callee used more done h.
    let m = c.args.machine.now in
    let P : Given → Type 0 = λ x. After run (program_of m.program.now) c.args.clock.now.spent (frames_of m) m.scene (λ s. asked_for at callee used (arguments_of (x ∷ more)) done s) in
    c.in-Some-place_here.ensures.does run (on.array_passed at callee used (arguments_of more) done) (subst P (sees_array c.args.argument.now c.in-Array.a c.in-Array.is) h)
