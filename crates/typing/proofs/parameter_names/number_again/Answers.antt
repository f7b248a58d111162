use Rattle.std.proofs.Common.{arith, refl}
use Rattle.typing.proofs.Names.{number_missing, number_once_more}
use Rattle.typing.proofs.parameter_names.number_again.Goals as goal

pub returns-then-place-own-clause-ok : goal.returns-then-place-own-clause-ok
returns-then-place-own-clause-ok c = λ t r. number_missing t c.args.scope.now r c.args.numbers.now _ c.args.name c.args.own.now (omega (arith, c.if-place-own.true)) refl

pub returns-in-Ok-name_number-clause-ok : goal.returns-in-Ok-name_number-clause-ok
returns-in-Ok-name_number-clause-ok c = λ t r.
    number_once_more t c.args.scope.now c.name_number.new.scope r c.args.numbers.now _ c.args.name c.in-Ok.object c.args.own.now c.in-Ok.ensures.ok (c.in-Ok-name_number.ensures.ok r) refl
