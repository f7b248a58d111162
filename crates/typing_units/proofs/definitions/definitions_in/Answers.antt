use Rattle.std.proofs.Common.{map, arith}
use Rattle.tree.specs.View.{external_of}
use Rattle.typing_spec.specs.Units.{definitions_in}
use Rattle.typing_units.proofs.Readings.{definitions_more, definitions_ended}
use Rattle.typing_units.proofs.definitions.definitions_in.Goals as goal

pub loop-external-preserved : goal.loop-external-preserved
loop-external-preserved c =
    definitions_more c.args.externals.now c.loop-external.external-index c.external-item.result c.loop-external.names.items c.with_definition.new.names.items (definitions_in (map external_of c.args.externals.now)) c.loop-external-test.true
    c.external-item.is c.loop-external.invariant c.in-Ok.ensures.ok

pub returns-clause-ok : goal.returns-clause-ok
returns-clause-ok c =
    definitions_ended c.args.externals.now c.loop-external.external-index c.loop-external.names.items (definitions_in (map external_of c.args.externals.now)) (omega (arith, c.loop-external-test.false)) c.loop-external.invariant
