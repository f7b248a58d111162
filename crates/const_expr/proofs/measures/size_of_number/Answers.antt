use Rattle.std.proofs.Common.{◌∙◌}
use Rattle.ctypes.specs.Types.{bytes_of}
use Rattle.const_expr.proofs.Sizes.{number_bytes}
use Rattle.const_expr.proofs.measures.size_of_number.Goals as goal

pub returns : goal.returns
returns c = c.size_is.ensures (bytes_of c.args.ty) (number_bytes c.args.ty _ (c.from.ensures ∙ c.size_of.ensures))
