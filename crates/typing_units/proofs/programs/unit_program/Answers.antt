use Rattle.std.proofs.Common.{◌≡◌, subst}
use Rattle.std.specs.Prelude.{IfOk, IfErr}
use Rattle.typed_ast.specs.View.{program_of}
use Rattle.typing_scopes.specs.Scopes.{with_texts}
use Rattle.typing_spec.specs.Verdict.{fine}
use Rattle.typing_spec.specs.Units.{whole_program}
use Rattle.typing_expressions.specs.Refused.{Tells}
use Rattle.typing_units.specs.Views.{unit_scope, built_of}
use Rattle.typing_units.proofs.Wholes.{taken_out}
use Rattle.typing_units.proofs.programs.unit_program.Goals as goal

pub returns-clause-ok : goal.returns-clause-ok
returns-clause-ok c = λ stack.
    subst (λ s. IfOk c.whole_program.result (λ p. whole_program c.args.whole (built_of stack s c.args.functions.items c.args.initial.items) ≡ fine (program_of p)))
    (taken_out c.args.names.now c.literals-literals.result.now c.change_statics-statics.result.items _ c.args.scope c.change_statics-statics.new.self c.change_statics-statics.ensures.new c.literals-literals.ensures c.change_statics-statics.ensures.old)
    (c.whole_program.ensures.ok stack)

pub returns-clause-err : goal.returns-clause-err
returns-clause-err c = λ stack.
    subst (λ s. IfErr c.whole_program.result (λ r. Tells r (whole_program c.args.whole (built_of stack s c.args.functions.items c.args.initial.items))))
    (taken_out c.args.names.now c.literals-literals.result.now c.change_statics-statics.result.items _ c.args.scope c.change_statics-statics.new.self c.change_statics-statics.ensures.new c.literals-literals.ensures c.change_statics-statics.ensures.old)
    (c.whole_program.ensures.err stack)
