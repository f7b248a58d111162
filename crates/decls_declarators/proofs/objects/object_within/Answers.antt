use Rattle.std.proofs.Common.{arith}
use Rattle.typing_spec.specs.Declarators as typed
use Rattle.decls_declarators.proofs.Limits.{over_limit, within_limit, lengths_within}
use Rattle.decls_declarators.proofs.objects.object_within.Goals as goal

pub returns-then-bytes_in-gt-OBJECT_LIMIT-clause-err : goal.returns-then-bytes_in-gt-OBJECT_LIMIT-clause-err
returns-then-bytes_in-gt-OBJECT_LIMIT-clause-err c =
    over_limit c.args.pos (typed.object_type c.args.element c.args.constant c.args.lengths.now) c.bytes_in.result c.broken.result (c.bytes_in.ensures c.args.constant) (omega (arith, c.if-bytes_in-gt-OBJECT_LIMIT.true)) c.broken.ensures

pub narrowed-requires : goal.narrowed-requires
narrowed-requires c =
    lengths_within (typed.object_type c.args.element c.args.constant c.args.lengths.now) c.bytes_in.result c.requires (c.bytes_in.ensures c.args.constant) (omega (arith, c.if-bytes_in-gt-OBJECT_LIMIT.false))

pub returns-in-Ok-clause-fits : goal.returns-in-Ok-clause-fits
returns-in-Ok-clause-fits c =
    within_limit c.args.pos (typed.object_type c.args.element c.args.constant c.args.lengths.now) c.bytes_in.result (c.bytes_in.ensures c.args.constant) (omega (arith, c.if-bytes_in-gt-OBJECT_LIMIT.false))
