use Rattle.std.proofs.Common.{rules}
use Rattle.interp_store.specs.layer.Views.{late_of}
use Rattle.interp_steps.proofs.Given.{counted_as}
use Rattle.interp_steps.proofs.initialisers.spend.Goals as goal

pub returns-in-None-clause-takes : goal.returns-in-None-clause-takes
returns-in-None-clause-takes c = counted_as c.args.ticks 0 (late_of c.args.late) c.args.machine.now c.come_late.new.machine c.come_late.result (search rules) c.come_late.ensures.takes
