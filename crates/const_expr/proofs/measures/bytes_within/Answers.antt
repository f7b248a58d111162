use Rattle.std.proofs.Common.{arith, ap, ◌*◌, ◌∙◌, ◌^◌, ◌%◌}
use Rattle.ctypes.specs.Types.{bytes_of}
use Rattle.const_expr.proofs.Sizes.{measured_none, measured_next, measured_all}
use Rattle.const_expr.proofs.measures.bytes_within.Goals as goal

pub loop-length-init : goal.loop-length-init
loop-length-init c = measured_none c.args.element _ c.args.lengths.now (c.from-bytes.ensures ∙ c.size_of.ensures)

pub loop-length-preserved : goal.loop-length-preserved
loop-length-preserved c =
    measured_next c.loop-length.bytes (bytes_of c.args.element) c.loop-length.length-index _ c.args.lengths.now c.loop-length-test.true (ap (λ k. (k * c.loop-length.bytes) % 2 ^ 64) c.from-bytes-in-loop-length.ensures) c.loop-length.invariant

pub returns : goal.returns
returns c = measured_all c.loop-length.bytes (bytes_of c.args.element) c.loop-length.length-index c.args.lengths.now (omega (arith, c.loop-length-test.false)) c.loop-length.invariant
