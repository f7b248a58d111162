use Rattle.std.proofs.Common.{ap, ◌∙◌}
use Rattle.ctypes.specs.declared.operators.Undef.TheVariants.{U1}
use Rattle.ctypes.specs.Arithmetic.{in_range}
use Rattle.ctypes.proofs.Exact.{near, difference_is}
use Rattle.ctypes.proofs.arithmetic.subtract.Goals as goal

pub returns : goal.returns
returns c = c.in_range.ensures ∙ ap (λ v. in_range U1 c.args.ty v v) (difference_is c.args.a c.args.b (near c.args.ty c.args.a c.requires.left) (near c.args.ty c.args.b c.requires.right))
