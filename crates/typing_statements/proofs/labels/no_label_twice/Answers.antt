use Rattle.std.proofs.Common.{map, arith}
use Rattle.typing_statements.specs.Views.{label_of}
use Rattle.typing_statements.proofs.LabelLists.{begun, next, twice, ended}
use Rattle.typing_statements.proofs.labels.no_label_twice.Goals as goal

pub loop-label-init : goal.loop-label-init
loop-label-init c = begun (map label_of c.args.labels.now) c.new-values.result.keys c.new-values.ensures.empty

pub loop-label-preserved : goal.loop-label-preserved
loop-label-preserved c =
    next c.args.labels.now c.loop-label.label-index _ c.loop-label.values.keys c.insert_full.new.self.keys c.in-Ok-default-true.field-0-1 c.loop-label-test.true c.in-Ok-default-true.field-0-1-test c.in-Ok-default-true.ensures.added
    c.in-Ok-default-true.ensures.keys c.loop-label.invariant

pub returns-in-Ok-default-false-clause-err : goal.returns-in-Ok-default-false-clause-err
returns-in-Ok-default-false-clause-err c =
    twice c.args.labels.now c.loop-label.label-index _ c.loop-label.values.keys c.in-Ok-default-false.field-0-1 c.broken.result c.loop-label-test.true c.in-Ok-default-false.field-0-1-test c.in-Ok-default-false.ensures.added
    c.broken.ensures c.loop-label.invariant

pub returns-clause-ok : goal.returns-clause-ok
returns-clause-ok c = ended c.args.labels.now c.loop-label.label-index c.loop-label.values.keys (omega (arith, c.loop-label-test.false)) c.loop-label.invariant
