use Rattle.std.proofs.Common.{sym, ◌∙◌, subst}
use Rattle.tree.specs.View.{init_of}
use Rattle.typed_ast.specs.View.{declared_type_of, initialiser_of}
use Rattle.typing_expressions.specs.Refused.{IsOf}
use Rattle.decls_initialisers.specs.Views.{wanted_of}
use Rattle.typing_declarations.proofs.Objects.{constant_as, first_read, first_form, first_typing}
use Rattle.typing_declarations.proofs.object_effects.first_effect.Goals as goal

pub returns-in-Err-clause-err : goal.returns-in-Err-clause-err
returns-in-Err-clause-err c =
    let same = constant_as c.args.scope.now (declared_type_of c.args.declared.now) c.element_of.result (wanted_of c.wanted_by.result) (init_of c.args.init.now) c.element_of.ensures c.wanted_by.ensures in
    first_form c.args.names.now c.args.scope.now c.args.pos (declared_type_of c.args.declared.now) c.args.number (init_of c.args.init.now) c.in-Err.refusal (subst (λ v. IsOf c.in-Err.refusal v) same c.in-Err.ensures.err)

pub returns-in-Ok-object_initialiser-clause-ok : goal.returns-in-Ok-object_initialiser-clause-ok
returns-in-Ok-object_initialiser-clause-ok c =
    let same = constant_as c.args.scope.now (declared_type_of c.args.declared.now) c.element_of.result (wanted_of c.wanted_by.result) (init_of c.args.init.now) c.element_of.ensures c.wanted_by.ensures in
    first_read c.args.names.now c.args.scope.now c.args.pos (declared_type_of c.args.declared.now) c.args.number (init_of c.args.init.now) (initialiser_of c.in-Ok-object_initialiser.initialiser) (sym same ∙ c.in-Ok.ensures.ok)
    c.in-Ok-object_initialiser.ensures.ok

pub returns-in-Err-object_initialiser-clause-err : goal.returns-in-Err-object_initialiser-clause-err
returns-in-Err-object_initialiser-clause-err c =
    let same = constant_as c.args.scope.now (declared_type_of c.args.declared.now) c.element_of.result (wanted_of c.wanted_by.result) (init_of c.args.init.now) c.element_of.ensures c.wanted_by.ensures in
    first_typing c.args.names.now c.args.scope.now c.args.pos (declared_type_of c.args.declared.now) c.args.number (init_of c.args.init.now) c.in-Err-object_initialiser.refusal (sym same ∙ c.in-Ok.ensures.ok)
    c.in-Err-object_initialiser.ensures.err
