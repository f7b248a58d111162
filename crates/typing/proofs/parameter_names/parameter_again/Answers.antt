use Rattle.std.proofs.Common.{OnOk, sym, ap, subst}
use Rattle.typed_ast.specs.View.{parameter_type_of}
use Rattle.typing.specs.inside.Names.{Again}
use Rattle.typing.proofs.parameter_names.parameter_again.Goals as goal

pub returns-in-Number-clause-ok : goal.returns-in-Number-clause-ok
returns-in-Number-clause-ok c =
    subst (λ k. OnOk c.number_again.result (Again c.args.scope.now c.number_again.new.scope c.args.references.now c.args.references.now c.args.numbers.now c.number_again.new.numbers c.args.name k c.args.own.now))
    (sym (ap parameter_type_of c.in-Number.is)) (c.number_again.ensures.ok c.in-Number.field-0 c.args.references.now)

pub returns-in-Elements-clause-ok : goal.returns-in-Elements-clause-ok
returns-in-Elements-clause-ok c =
    subst (λ k. OnOk c.reference_again.result (Again c.args.scope.now c.reference_again.new.scope c.args.references.now c.reference_again.new.references c.args.numbers.now c.args.numbers.now c.args.name k c.args.own.now))
    (sym (ap parameter_type_of c.in-Elements.is)) (c.reference_again.ensures.ok c.args.own.now c.args.numbers.now)
