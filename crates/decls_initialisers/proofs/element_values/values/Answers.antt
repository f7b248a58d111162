use Rattle.std.proofs.Common.{[], sym, subst}
use Rattle.typed_ast.specs.View.{initialiser_of}
use Rattle.typing_spec.specs.Scope.{file_scope}
use Rattle.typing_expressions.specs.Refused.{Tells}
use Rattle.decls_initialisers.proofs.Layouts.{whole_values, values_same}
use Rattle.decls_initialisers.proofs.element_values.values.Goals as goal

pub returns-in-Ok-clause-ok : goal.returns-in-Ok-clause-ok
returns-in-Ok-clause-ok c = λ s.
    whole_values c.args.names.now c.args.literals.now s c.args.element c.args.lengths.now (initialiser_of c.args.initialiser.now) c.push_values.new.all.items c.new-all.result.items c.in-Ok.ensures.ok.0 c.new-all.ensures.items c.in-Ok.ensures.ok.1 c.in-Ok.ensures.ok.2

pub returns-in-Err-clause-err : goal.returns-in-Err-clause-err
returns-in-Err-clause-err c = λ s.
    subst (λ v. Tells c.in-Err.refusal v) (sym (values_same c.args.names.now c.args.literals.now s (file_scope [] []) c.args.element c.args.lengths.now (initialiser_of c.args.initialiser.now))) c.in-Err.ensures.err
