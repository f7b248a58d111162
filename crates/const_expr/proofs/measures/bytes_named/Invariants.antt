use Rattle.std.proofs.Common.{drop}
use Rattle.ctypes.specs.Types.{bytes_of}
use Rattle.const_expr.proofs.Sizes.{Measured}
use Rattle.const_expr.proofs.measures.bytes_named.Given as goal

abbrev pub invariant-loop-length : goal.invariant-loop-length
invariant-loop-length l = Measured l.bytes (bytes_of l.fn.element) (drop l.length-index l.lengths) l.lengths
