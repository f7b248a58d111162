use Rattle.std.proofs.Common.{◌≡◌, [], map, ap, sym, ◌∙◌}
use Rattle.typed_ast.specs.View.{function_of}
use Rattle.typing_scopes.specs.Scopes.{static_of, with_statics, with_texts}
use Rattle.typing_spec.specs.Verdict.{fine}
use Rattle.typing_spec.specs.Units.{within_limits, main_from}
use Rattle.typing_spec.specs.Uses.{all_defined, uses_in_functions}
use Rattle.typing_expressions.specs.Refused.{IsOf}
use Rattle.typing_units.specs.Views.{unit_scope, built_of}
use Rattle.typing_units.proofs.Wholes.{at_slices, limits_told, uses_told, main_same, whole_fine, if_ok}
use Rattle.typing_units.proofs.programs.whole_program.Goals as goal

pub returns-in-Err-clause-err : goal.returns-in-Err-clause-err
returns-in-Err-clause-err c = λ stack.
    limits_told c.args.whole (built_of stack (unit_scope c.args.names.now c.args.literals.now c.args.statics.items c.args.scope.now) c.args.functions.items c.args.initial.items) c.in-Err.refusal
    (at_slices (λ os fs. IsOf c.in-Err.refusal (within_limits c.args.whole (built_of stack (unit_scope c.args.names.now c.args.literals.now os c.args.scope.now) fs c.args.initial.items))) _ _ _ _ c.deref.ensures.value
    c.deref-2.ensures.value (c.in-Err.ensures.err stack c.args.scope.now c.args.initial.items))

pub returns-in-Err-all_defined-clause-err : goal.returns-in-Err-all_defined-clause-err
returns-in-Err-all_defined-clause-err c = λ stack.
    let s = unit_scope c.args.names.now c.args.literals.now c.args.statics.items c.args.scope.now in
    uses_told c.args.whole (built_of stack s c.args.functions.items c.args.initial.items) c.in-Err-all_defined.refusal
    (at_slices (λ os fs. IsOf c.in-Err-all_defined.refusal (all_defined (with_statics (map static_of os) s) [] (uses_in_functions (map function_of fs)))) _ _ _ _ c.deref-3.ensures.value c.deref-4.ensures.value
    (c.in-Err-all_defined.ensures.err s))

pub returns-in-Some-clause-ok : goal.returns-in-Some-clause-ok
returns-in-Some-clause-ok c = λ stack.
    let s = unit_scope c.args.names.now c.args.literals.now c.args.statics.items c.args.scope.now in
    if_ok c.program_of.result (c.program_of.ensures.ok stack c.args.scope.now) (λ p e.
    whole_fine c.args.whole (built_of stack s c.args.functions.items c.args.initial.items) c.in-Some.main _
    (at_slices (λ os fs. within_limits c.args.whole (built_of stack (unit_scope c.args.names.now c.args.literals.now os c.args.scope.now) fs c.args.initial.items) ≡ fine tt) _ _ _ _ c.deref.ensures.value c.deref-2.ensures.value
    (c.in-Ok.ensures.ok stack c.args.scope.now c.args.initial.items))
    (at_slices (λ os fs. all_defined (with_statics (map static_of os) s) [] (uses_in_functions (map function_of fs)) ≡ fine tt) _ _ _ _ c.deref-3.ensures.value c.deref-4.ensures.value (c.in-Ok-all_defined.ensures.ok s))
    (main_same c.args.names.now c.args.literals.now c.args.statics.items c.args.scope.now 0 (map function_of c.args.functions.items)
    ∙ ap (λ fs. main_from (with_texts c.args.names.now c.args.scope.now) 0 (map function_of fs)) (sym c.deref-5.ensures.value) ∙ sym c.main_from.ensures ∙ c.in-Some.is)
    e)
