use Rattle.ctypes.proofs.Exact.{product_fits, product_is}
use Rattle.ctypes.proofs.arithmetic.multiply_signed.Goals as goal

pub overflow_mul-result : goal.overflow_mul-result
overflow_mul-result c = product_fits c.args.ty c.args.a c.args.b c.requires.kind c.requires.left c.requires.right c.ranges.a c.ranges.b

pub returns : goal.returns
returns c = product_is c.args.ty c.args.a c.args.b c.requires.kind c.requires.left c.requires.right c.ranges.a c.ranges.b
