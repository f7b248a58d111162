use Rattle.std.proofs.Common.{ap, ◌*◌, ◌^◌, ◌%◌}
use Rattle.ctypes.specs.Types.{bytes_of}
use Rattle.typing_spec.specs.Types.{elements_in}
use Rattle.const_expr.proofs.Sizes.{array_bytes}
use Rattle.const_expr.proofs.measures.bytes_of_array.Goals as goal

pub returns : goal.returns
returns c = array_bytes c.args.length (bytes_of c.args.elements.element) (elements_in c.args.elements.lengths.now) c.bytes_within-within.result _ c.bytes_within-within.ensures (ap (λ k. (k * c.bytes_within-within.result) % 2 ^ 64) c.from.ensures)
