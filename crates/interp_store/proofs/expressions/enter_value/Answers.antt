use Rattle.std.proofs.Common.{ap, sym, ◌∙◌, List, map}
use Rattle.typed_ast.specs.declared.expressions.Argument.{Argument}
use Rattle.csem.specs.Machine.{State}
use Rattle.interp_store.specs.declared.frames.Passed.{Passed}
use Rattle.interp_store.specs.layer.Frames.{Moved}
use Rattle.interp_store.specs.layer.Views.{passed_of}
use Rattle.typed_ast.specs.View.{value_of, place_of, callee_of, arguments_of, argument_of}
use Rattle.typing_spec.specs.Program as typed
use Rattle.interp_store.specs.layer.Steps.{entered_value, asked_for}
use Rattle.interp_store.proofs.Held.{sees_read, sees_call}
use Rattle.interp_store.proofs.Taken.{takes_as}
use Rattle.interp_store.proofs.expressions.enter_value.Goals as goal

pub returns-in-Read-clause-takes : goal.returns-in-Read-clause-takes
returns-in-Read-clause-takes c =
    takes_as c.args.machine.now c.enter_read.new.machine c.enter_read.result (λ p s. entered_value p (value_of c.args.e.now) s) _
    (λ p s. ap (λ x. entered_value p x s) (ap (λ a. typed.read c.in-Read.field-0 (place_of a)) c.deref.ensures ∙ sym (sees_read c.args.e.now c.in-Read.field-0 c.in-Read.a c.in-Read.is))) c.enter_read.ensures.takes

pub returns-in-Call-clause-takes : goal.returns-in-Call-clause-takes
returns-in-Call-clause-takes c =
    let at = c.in-Call.at in
    let used = c.in-Call.used in
    let asks : List Argument → List Passed → typed.Program → State → Moved = λ more before p s. asked_for at (callee_of c.in-Call.callee) used (arguments_of (map argument_of more)) (map passed_of before) s in
    takes_as c.args.machine.now c.ask.new.machine c.ask.result (λ p s. entered_value p (value_of c.args.e.now) s) (asks c.as_slice.result.now c.new-before.result.items)
    (λ p s. ap (λ more. asks more c.new-before.result.items p s) c.as_slice.ensures.value ∙ ap (λ before. asks c.in-Call.arguments.items before p s) c.new-before.ensures.items
    ∙ ap (λ x. entered_value p x s) (sym (sees_call c.args.e.now at c.in-Call.callee c.in-Call.field-2 used c.in-Call.arguments c.in-Call.is))) c.ask.ensures.takes
