use Rattle.ctypes.proofs.Exact.{near, times_power_is}
use Rattle.ctypes.proofs.arithmetic.times_power.Goals as goal

pub returns : goal.returns
returns c = times_power_is c.args.ty c.args.a c.args.count (near c.args.ty c.args.a c.requires.left) c.requires.sign c.requires.count
