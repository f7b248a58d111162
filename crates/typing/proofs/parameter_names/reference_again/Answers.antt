use Rattle.std.proofs.Common.{refl}
use Rattle.typing.proofs.Names.{reference_once_more}
use Rattle.typing.proofs.parameter_names.reference_again.Goals as goal

pub returns-in-Ok-name_reference-clause-ok : goal.returns-in-Ok-name_reference-clause-ok
returns-in-Ok-name_reference-clause-ok c = λ own k.
    reference_once_more own c.args.scope.now c.name_reference.new.scope c.args.references.now _ k c.args.name _ _ c.in-Ok.ensures.ok (c.in-Ok-name_reference.ensures.ok k) refl
