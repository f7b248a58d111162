use Rattle.std.proofs.Common.{◌≡◌, ap, sym, subst, ◌∙◌, List, map, refl}
use Rattle.std.specs.Prelude.{Option, None, Some, slice_get}
use Rattle.typed_ast.specs.declared.units.Function as unit
use Rattle.typed_ast.specs.View.{function_of, program_of}
use Rattle.typing_spec.specs.Program as typed
use Rattle.interp_store.specs.layer.Steps.{entered_call}
use Rattle.interp_store.specs.layer.Views.{back_of, passed_of}
use Rattle.interp_store.specs.layer.Agrees.{Agrees, frames_of, onto, state_in}
use Rattle.interp_transitions.specs.Acts.{outside_behind}
use Rattle.interp_transitions.proofs.Called.{a_function, back_acts, no_function}
use Rattle.interp_transitions.proofs.calls.call_function.Goals as goal

pub returns-in-None-clause-acts : goal.returns-in-None-clause-acts
returns-in-None-clause-acts c = λ o.
    let m = c.args.machine.now in
    let p = program_of m.program.now in
    let f = c.args.f in
    let back = back_of c.args.back in
    let passed = map passed_of c.args.passed.now in
    let s = state_in m.scene o in
    let P : Option typed.Function → Type 0 = λ g. Agrees (onto (frames_of m) (entered_call p back g f passed s)) c.go_back.result (frames_of m)
    (state_in m.scene (outside_behind (entered_call p back g f passed s))) in
    let none : slice_get p.functions f ≡ None = ap (λ (l : List unit.Function). slice_get (map function_of l) f) (sym c.deref.ensures.value) ∙ no_function c.deref.result.now f c.in-None.ensures.lookup.3 in
    subst P (sym none) (back_acts p back None s (frames_of m) c.go_back.result m.scene o refl (c.go_back.ensures p s (frames_of m)))

pub returns-in-Some-clause-acts : goal.returns-in-Some-clause-acts
returns-in-Some-clause-acts c = λ o.
    let m = c.args.machine.now in
    let p = program_of m.program.now in
    let f = c.args.f in
    let back = back_of c.args.back in
    let passed = map passed_of c.args.passed.now in
    let s = state_in m.scene o in
    let g = c.in-Some.g.now in
    let P : Option typed.Function → Type 0 = λ g. Agrees (onto (frames_of m) (entered_call p back g f passed s)) c.begin.result (frames_of c.begin.new.machine)
    (state_in c.begin.new.machine.scene (outside_behind (entered_call p back g f passed s))) in
    let some : slice_get p.functions f ≡ Some (function_of g) = ap (λ (l : List unit.Function). slice_get (map function_of l) f) (sym c.deref.ensures.value)
    ∙ a_function c.deref.result.now f g c.in-Some.ensures.lookup.3.0 c.in-Some.ensures.lookup.1 in
    subst P (sym some) (c.begin.ensures.acts o)
