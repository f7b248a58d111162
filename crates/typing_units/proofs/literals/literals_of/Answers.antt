use Rattle.std.proofs.Common.{get_or, arith}
use Rattle.std.proofs.lemmas.List.{get_or_default}
use Rattle.typing_scopes.specs.Scopes.{with_texts}
use Rattle.typing_spec.specs.Units.{literals_of}
use Rattle.typing_units.proofs.Readings.{literals_more, literals_ended}
use Rattle.typing_units.proofs.literals.literals_of.Goals as goal

pub loop-name-preserved : goal.loop-name-preserved
loop-name-preserved c = λ s.
    literals_more (with_texts c.args.names.now s) c.args.literals.now c.loop-name.name-index (get_or c.args.literals.now c.loop-name.name-index 0) _ _ (literals_of (with_texts c.args.names.now s) c.args.literals.now)
    c.loop-name-test.true (get_or_default c.args.literals.now c.loop-name.name-index 0 _ c.loop-name-test.true) (c.loop-name.invariant s) (c.in-Ok.ensures.ok s)

pub returns-clause-ok : goal.returns-clause-ok
returns-clause-ok c = λ s. literals_ended (with_texts c.args.names.now s) c.args.literals.now c.loop-name.name-index _ (literals_of (with_texts c.args.names.now s) c.args.literals.now) (omega (arith, c.loop-name-test.false)) (c.loop-name.invariant s)
