use Rattle.std.proofs.Common.{◌≡◌, ◌∷◌, ap, sym, ◌∙◌, length, map, refl, rules}
use Rattle.std.specs.Prelude.{Some, nat_eq}
use Rattle.std.proofs.lemmas.List.{length-map}
use Rattle.typed_ast.specs.View.{function_of, object_type_of, parameter_type_of, program_of}
use Rattle.csem.specs.History.{Entered}
use Rattle.csem.specs.Meaning.{words_of}
use Rattle.interp_store.specs.View.{reference_of}
use Rattle.interp_store.specs.layer.Steps.{entered_call}
use Rattle.interp_store.specs.layer.Views.{back_of, passed_of}
use Rattle.interp_store.specs.layer.Agrees.{Outside, frames_of, state_in}
use Rattle.interp_store.proofs.Taken.{agrees_as}
use Rattle.interp_transitions.proofs.Called.{begin_as, set_as}
use Rattle.interp_transitions.proofs.calls.begin.Goals as goal

pub returns-clause-acts : goal.returns-clause-acts
returns-clause-acts c = λ o.
    let m = c.args.machine.now in
    let p = program_of m.program.now in
    let f = c.args.f in
    let g = function_of c.args.g.now in
    let passed = map passed_of c.args.passed.now in
    let s = state_in m.scene o in
    let o2 : Outside = record o { history = Entered f (words_of passed) ∷ o.history } in
    let caller = c.in-Ok.caller in
    let many : c.len.result ≡ length c.args.g.now.function_type.parameters.items = search rules in
    agrees_as (entered_call p (back_of c.args.back) (Some g) f passed s) _ (frames_of m) (frames_of c.wait.new.self) c.wait.result (state_in c.wait.new.self.scene o2)
    (begin_as p (back_of c.args.back) f g passed s (state_in c.set_scene.new.scene o2) (nat_eq f m.program.now.main) caller.count caller.base (map reference_of caller.arrays.items)
    c.len.result (map object_type_of c.as_slice-2.result.now) refl c.in-Ok.ensures.caller.0 c.in-Ok.ensures.caller.1 (ap (λ arrays. map reference_of arrays.items) c.in-Ok.ensures.caller.2)
    (many ∙ sym (length-map c.args.g.now.function_type.parameters.items parameter_type_of)) (ap (map object_type_of) c.as_slice-2.ensures.value)
    (set_as c.set_scene.new.scene m.scene o f g (map object_type_of c.as_slice.result.now) passed c.in-Ok.ensures.store (ap (map object_type_of) c.as_slice.ensures.value) c.in-Ok.ensures.base c.in-Ok.ensures.arrays))
    (c.wait.ensures.takes o2)
