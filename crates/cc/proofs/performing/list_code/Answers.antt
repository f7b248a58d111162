use Rattle.std.proofs.Common.{inr, refl}
use Rattle.cc.proofs.performing.list_code.Goals as goal

pub returns-in-Err : goal.returns-in-Err
returns-in-Err g c = inr (refl, (c.in-Err.fault, c.in-Err.ensures, c.say_fault.ensures))
